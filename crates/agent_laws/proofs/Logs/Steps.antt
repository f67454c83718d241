-- The kinds of entries that exchanges add, and that each can follow the log.
use Rattle.std.proofs.Common.{◌≡◌, ℕ, ◌+◌, ◌<◌, ◌≤◌, List, [], ◌∷◌, ◌++◌, length, Option, Some, None, Bool, true, false, refl, sym, subst, ◌∙◌, if◌then◌else◌, arith, eq-eqb}
use Rattle.std.specs.Prelude.{◌||◌, ◌&&◌, ◌==◌, not, map, nat_lt, is_none}
use Rattle.std.specs.Char.{to_ascii_lowercase}
use Rattle.std.proofs.lemmas.Bool.Decides.{nat_tests}
use Rattle.origin_core.specs.Flags.{union, has_navigation}
use Rattle.origin_core.specs.Origin.{page_origin}
use Rattle.origin_core.specs.Site.{fits as fits_domain}
use Rattle.tree_log.specs.declared.entry.Entry.{Entry}
use Rattle.tree_log.specs.declared.entry.Load.{Load}
use Rattle.tree_log.specs.declared.entry.What.{What}
use Rattle.tree_log.specs.declared.entry.What.TheVariants as what
use Rattle.tree_log.specs.Tree.{Tree, tree_of, tree_after, tree_of_step, nav_of, origin_of, domain_of, children_of, is_active, same_group, same_domain}
use Rattle.tree_log.specs.Admits.{is_documents, has, has_if_any, is_next, is_next_load, admits_what, admits, AreAdmitted}
use Rattle.tree_log.proofs.Admitted.{both, lt_of, few_of}
use Rattle.agent_terms.specs.declared.request.Request.{Request}
use Rattle.agent_terms.specs.declared.request.Request.TheVariants as ask
use Rattle.agent_terms.specs.declared.request.ReplyOutcome.TheVariants as reply
use Rattle.single_agent.specs.Session.{start_entry}
use Rattle.coordinator_rules.specs.Navigation.{flags_in, is_in, may_navigate, may_close, Choice, Existing, New, Nothing, choice}
use Rattle.coordinator_rules.specs.Decision.{asking, Rules, Decision, decide, asker_of, by, one, group_in, load_for, navigation, frame_entry, frame_load, window_load, window_flags, new_window, made_or_null, unless, opener_entry, or_sync, open_chosen, link_chosen, if_open, is_live, is_near, is_address, effective_domain, domain_decision}
use Rattle.agent_laws.specs.Wellness.{IsWell}
use Rattle.agent_laws.proofs.Logs.Exchanges.{domain_cases}
use Rattle.agent_laws.proofs.Logs.Lists.{in_below}
use Rattle.agent_laws.proofs.Logs.Entries.{entry}
use Rattle.agent_laws.proofs.Groups.Well.{more_docs, more_navs, admitted_well}
use Rattle.agent_laws.proofs.Groups.Choices.{children_below, choice_below, IsChoiceBelow, has_group}
use Rattle.agent_laws.proofs.Logs.Activity.{IsUnmoved, active_unmoved, begin_unmoved, fragment_unmoved}

-- KINDS

unfoldable pub is_maker : What → Bool
is_maker (what.Open _ _ _ _ _ _ _ _ _ _) = true
is_maker (what.Frame _ _ _ _ _ _ _) = true
is_maker (what.Begin _ _) = true
is_maker (what.Domain _ _) = true
is_maker w = false

pub data IsStep (rules : Rules) (t : Tree) : Entry → Type 0 where
  Quietly : (b a : Option ℕ) (w : What) → is_maker w ≡ false → IsStep rules t (entry b a w)
  Begins : (r asker n : ℕ) (url : List ℕ) → n < t.navs → asker < t.docs → IsStep rules t (by r asker (navigation rules t false asker n url))
  Frames : (r asker : ℕ) (name : List ℕ) (flags : ℕ) (url : Option (List ℕ)) → asker < t.docs → IsStep rules t (by r asker (frame_entry rules t asker name flags url))
  Windows : (r asker : ℕ) (name : List ℕ) (noopener : Bool) (url : Option (List ℕ)) → asker < t.docs → IsStep rules t (by r asker (new_window rules t asker name noopener url))
  Starts : (url : List ℕ) → IsStep rules t (start_entry rules t url)
  Relaxes : (r asker : ℕ) (value effective : List ℕ) → asker < t.docs → effective_domain (origin_of t asker) (domain_of t asker) ≡ Some effective
      → fits_domain value effective (is_address (origin_of t asker)) rules.suffixes ≡ true → IsStep rules t (by r asker (what.Domain asker value))

-- the entry is of one of these kinds, and can follow the log
abbrev pub IsFit : Rules → Tree → Entry → Type 0
IsFit rules t e = IsStep rules t e × (admits t e ≡ true)

abbrev pub AreSteps : Rules → List Entry → List Entry → Type 0
AreSteps rules log [] = Unit {0}
AreSteps rules log (e ∷ es) = IsFit rules (tree_of (es ++ log)) e × AreSteps rules log es

-- WHO ASKS

-- an active document asks, and there is room for its entries
pub record IsAsking (t : Tree) (asker : ℕ) : Type 0 where
  pub well : IsWell t
  pub there : asker < t.docs
  pub active : is_active t asker ≡ true
  pub len : t.len < 2000000000
  pub navs : t.navs < 2000000000
  pub docs : t.docs < 4000000000
  pub groups : t.groups < 2000000000

pub lt_true : (a b : ℕ) → a < b → nat_lt a b ≡ true
lt_true a b h = grind (arith, nat_tests)

pub next_true : (n : ℕ) → n < 4294967295 → is_next n n ≡ true
next_true n h = rw (eq-eqb n n refl, lt_true n 4294967295 h) refl

acts : (t : Tree) (r asker : ℕ) → IsAsking t asker → is_documents t (Some r) (Some asker) ≡ true
acts t r asker a = rw (lt_true asker t.docs a.there, a.active) refl

fits : (t : Tree) (r asker : ℕ) (w : What) → IsAsking t asker → admits_what t (Some r) (Some asker) w ≡ true → admits t (by r asker w) ≡ true
unfolding admits
fits t r asker w a h = rw (lt_true t.len 4294967295 (let lt : t.len < 2000000000 = a.len in omega arith), h) refl

-- THE ENTRIES OF A DECISION

quiet : (rules : Rules) (t : Tree) (r asker : ℕ) (w : What) → IsAsking t asker → is_maker w ≡ false → admits_what t (Some r) (Some asker) w ≡ true → IsFit rules t (by r asker w)
quiet rules t r asker w a q h = (Quietly (Some r) (Some asker) w q, fits t r asker w a h)

sync_fits : (rules : Rules) (t : Tree) (r asker : ℕ) → IsAsking t asker → IsFit rules t (by r asker what.Sync)
unfolding is_maker
sync_fits rules t r asker a = quiet rules t r asker what.Sync a refl (acts t r asker a)

-- an entry that names one navigable
named_fits : (rules : Rules) (t : Tree) (r asker n : ℕ) (w : What) → IsAsking t asker → n < t.navs → is_maker w ≡ false
    → admits_what t (Some r) (Some asker) w ≡ (is_documents t (Some r) (Some asker) && has t.navs n) → IsFit rules t (by r asker w)
named_fits rules t r asker n w a lt q e = quiet rules t r asker w a q (e ∙ both_true _ _ (acts t r asker a) (lt_true n t.navs lt))
  where
    both_true : (b c : Bool) → b ≡ true → c ≡ true → (b && c) ≡ true
    both_true b c h k = rw (h, k) refl

opener_fits : (rules : Rules) (t : Tree) (r asker n to : ℕ) → IsAsking t asker → n < t.navs → to < t.navs → IsFit rules t (by r asker (what.Opener n (Some to)))
unfolding is_maker
opener_fits rules t r asker n to a lt lt_to = quiet rules t r asker (what.Opener n (Some to)) a refl (rw (acts t r asker a, lt_true n t.navs lt, lt_true to t.navs lt_to) refl)

navigation_fits : (rules : Rules) (t : Tree) (fragment : Bool) (r asker n : ℕ) (url : List ℕ) → IsAsking t asker → n < t.navs → IsFit rules t (by r asker (navigation rules t fragment asker n url))
unfolding is_maker
navigation_fits rules t true r asker n url a lt =
    quiet rules t r asker (what.Fragment n (t.nav n).active url) a refl (rw (acts t r asker a, lt_true n t.navs lt, lt_true (t.nav n).active t.docs (a.well.active n lt)) refl)
navigation_fits rules t false r asker n url a lt = (
  Begins r asker n url lt a.there,
  fits t r asker (navigation rules t false asker n url) a (rw (acts t r asker a, lt_true n t.navs lt, next_true t.docs (let few : t.docs < 4000000000 = a.docs in omega arith)) refl),
)

frame_load_next : (rules : Rules) (t : Tree) (asker flags : ℕ) (url : Option (List ℕ)) → t.docs < 4000000000 → is_next_load (t.docs + 1) (frame_load rules t asker flags url) ≡ true
frame_load_next rules t asker flags None few = refl
frame_load_next rules t asker flags (Some url) few = if_loads (is_none (page_origin url)) (load_for rules t (group_in t (nav_of t asker)) flags (t.docs + 1) asker url) refl
  where
    if_loads : (b : Bool) (load : Load) → load.doc ≡ t.docs + 1 → is_next_load (t.docs + 1) (if b then None else Some load) ≡ true
    if_loads true load e = refl
    if_loads false load e = rw e (next_true (t.docs + 1) (omega arith))

frame_fits : (rules : Rules) (t : Tree) (r asker : ℕ) (name : List ℕ) (flags : ℕ) (url : Option (List ℕ)) → IsAsking t asker → IsFit rules t (by r asker (frame_entry rules t asker name flags url))
frame_fits rules t r asker name flags url a = (
  Frames r asker name flags url a.there,
  fits t r asker (frame_entry rules t asker name flags url) a
      (rw (acts t r asker a, next_true t.navs (let few : t.navs < 2000000000 = a.navs in omega arith), next_true t.docs (let few : t.docs < 4000000000 = a.docs in omega arith), frame_load_next rules t asker flags url a.docs) refl),
)

window_load_next : (rules : Rules) (t : Tree) (asker group flags : ℕ) (url : Option (List ℕ)) → t.docs < 4000000000 → is_next_load (t.docs + 1) (window_load rules t asker group flags url) ≡ true
window_load_next rules t asker group flags None few = refl
window_load_next rules t asker group flags (Some url) few = next_true (t.docs + 1) (omega arith)

unless_there : (b : Bool) (navs n : ℕ) → n < navs → has_if_any navs (unless b n) ≡ true
unless_there true navs n lt = refl
unless_there false navs n lt = lt_true n navs lt

group_fits : (t : Tree) (asker : ℕ) (noopener : Bool) → IsAsking t asker
    → (has t.groups (if noopener then t.groups else group_in t (nav_of t asker)) || is_next t.groups (if noopener then t.groups else group_in t (nav_of t asker))) ≡ true
group_fits t asker true a = rw (next_true t.groups (let few : t.groups < 2000000000 = a.groups in omega arith)) (or_right (has t.groups t.groups))
  where
    or_right : (b : Bool) → (b || true) ≡ true
    or_right true = refl
    or_right false = refl
group_fits t asker false a =
    let found = has_group t a.well (nav_of t asker) (a.well.below asker a.there) in
    rw (found.1, lt_true found.0 t.groups found.2) refl

window_fits : (rules : Rules) (t : Tree) (r asker : ℕ) (name : List ℕ) (noopener : Bool) (url : Option (List ℕ)) → IsAsking t asker → IsFit rules t (by r asker (new_window rules t asker name noopener url))
window_fits rules t r asker name noopener url a =
    let n : ℕ = nav_of t asker in
    let there : n < t.navs = a.well.below asker a.there in
    let group : ℕ = if noopener then t.groups else group_in t n in (
      Windows r asker name noopener url a.there,
      fits t r asker (new_window rules t asker name noopener url) a
          (rw (
            acts t r asker a,
            next_true t.navs (let few : t.navs < 2000000000 = a.navs in omega arith),
            next_true t.docs (let few : t.docs < 4000000000 = a.docs in omega arith),
            group_fits t asker noopener a,
            unless_there noopener t.navs n there,
            unless_there (noopener || not (has_navigation (flags_in t n))) t.navs n there,
            window_load_next rules t asker group (window_flags t n) url a.docs,
          ) refl),
    )

-- AFTER A NAVIGATION

pub asking_of : (log : List Entry) (asker : ℕ) → AreAdmitted log → length log < 1073741826 → asker < (tree_of log).docs → is_active (tree_of log) asker ≡ true → IsAsking (tree_of log) asker
asking_of log asker all short there active =
    let few = few_of log in
    record {
      well = admitted_well log all;
      there = there;
      active = active;
      len = omega (arith, few.len);
      navs = omega (arith, few.navs);
      docs = omega (arith, few.docs);
      groups = omega (arith, few.groups);
    }

unmoved_by : (rules : Rules) (t : Tree) (fragment : Bool) (r asker n : ℕ) (url : List ℕ) → admits t (by r asker (navigation rules t fragment asker n url)) ≡ true
    → IsUnmoved t (tree_after t (by r asker (navigation rules t fragment asker n url)))
unmoved_by rules t true r asker n url h = fragment_unmoved t (Some r) (Some asker) n (t.nav n).active url
unmoved_by rules t false r asker n url h = begin_unmoved t (Some r) (Some asker) n (load_for rules t (group_in t n) (flags_in t n) t.docs asker url) h

-- the asker is still active
asking_later : (rules : Rules) (log : List Entry) (fragment : Bool) (r asker n : ℕ) (url : List ℕ) → AreAdmitted log → length log < 1073741825 → IsAsking (tree_of log) asker
    → admits (tree_of log) (by r asker (navigation rules (tree_of log) fragment asker n url)) ≡ true
    → IsAsking (tree_of (by r asker (navigation rules (tree_of log) fragment asker n url) ∷ log)) asker
asking_later rules log fragment r asker n url all short a h =
    let t : Tree = tree_of log in
    let e : Entry = by r asker (navigation rules t fragment asker n url) in
    let there : asker < (tree_after t e).docs = omega (arith, a.there, more_docs t e) in
    let active : is_active (tree_after t e) asker ≡ true = active_unmoved t (tree_after t e) a.well (unmoved_by rules t fragment r asker n url h) asker a.there ∙ a.active in
    asking_of (e ∷ log) asker (h, all) (omega arith) (subst (λ (s : Tree). asker < s.docs) (sym (tree_of_step e log)) there) (subst (λ (s : Tree). is_active s asker ≡ true) (sym (tree_of_step e log)) active)

opener_later : (rules : Rules) (log : List Entry) (fragment : Bool) (r asker n m : ℕ) (url : List ℕ) → AreAdmitted log → length log < 1073741825 → IsAsking (tree_of log) asker → m < (tree_of log).navs
    → admits (tree_of log) (by r asker (navigation rules (tree_of log) fragment asker n url)) ≡ true
    → IsFit rules (tree_of (by r asker (navigation rules (tree_of log) fragment asker n url) ∷ log)) (by r asker (what.Opener m (Some (nav_of (tree_of log) asker))))
opener_later rules log fragment r asker n m url all short a lt h =
    let t : Tree = tree_of log in
    let e : Entry = by r asker (navigation rules t fragment asker n url) in
    let grown : t.navs ≤ (tree_of (e ∷ log)).navs = subst (λ (s : Tree). t.navs ≤ s.navs) (sym (tree_of_step e log)) (more_navs t e) in
    opener_fits rules (tree_of (e ∷ log)) r asker m (nav_of t asker) (asking_later rules log fragment r asker n url all short a h) (omega arith) (omega (arith, a.well.below asker a.there))

-- DECISIONS

abbrev pub Steps : Rules → List Entry → Decision → Type 0
Steps rules log d = AreSteps rules log d.entries

steps_if : (rules : Rules) (log : List Entry) (b : Bool) (c d : Decision) → Steps rules log c → Steps rules log d → Steps rules log (if b then c else d)
steps_if rules log true c d h k = h
steps_if rules log false c d h k = k

steps_then : (rules : Rules) (log : List Entry) (b : Bool) (c d : Decision) → (b ≡ true → Steps rules log c) → Steps rules log d → Steps rules log (if b then c else d)
steps_then rules log true c d h k = h refl
steps_then rules log false c d h k = k

fit_if : (rules : Rules) (t : Tree) (r asker : ℕ) (b : Bool) (v w : What) → (b ≡ true → IsFit rules t (by r asker v)) → IsFit rules t (by r asker w) → IsFit rules t (by r asker (if b then v else w))
fit_if rules t r asker true v w h k = h refl
fit_if rules t r asker false v w h k = k

front_steps : (rules : Rules) (log : List Entry) (fragment : Bool) (r asker n : ℕ) (url : List ℕ) (b : Bool) → AreAdmitted log → length log < 1073741825 → IsAsking (tree_of log) asker → n < (tree_of log).navs
    → AreSteps rules log ((if b then [] else by r asker (what.Opener n (Some (nav_of (tree_of log) asker))) ∷ []) ++ by r asker (navigation rules (tree_of log) fragment asker n url) ∷ [])
front_steps rules log fragment r asker n url true all short a lt = (navigation_fits rules (tree_of log) fragment r asker n url a lt, tt)
front_steps rules log fragment r asker n url false all short a lt =
    let fit = navigation_fits rules (tree_of log) fragment r asker n url a lt in
    (opener_later rules log fragment r asker n n url all short a lt fit.1, (fit, tt))

sync_steps : (rules : Rules) (log : List Entry) (r asker n : ℕ) (b : Bool) → IsAsking (tree_of log) asker → n < (tree_of log).navs
    → AreSteps rules log (or_sync r asker (if b then [] else by r asker (what.Opener n (Some (nav_of (tree_of log) asker))) ∷ []))
sync_steps rules log r asker n true a lt = (sync_fits rules (tree_of log) r asker a, tt)
sync_steps rules log r asker n false a lt = (opener_fits rules (tree_of log) r asker n (nav_of (tree_of log) asker) a lt (a.well.below asker a.there), tt)

steps_opened : (rules : Rules) (log : List Entry) (fragment : ℕ → List ℕ → Bool) (r asker : ℕ) (url : Option (List ℕ)) (name : List ℕ) (noopener user : Bool) → AreAdmitted log → length log < 1073741825 → IsAsking (tree_of log) asker
    → (c : Choice) → IsChoiceBelow (tree_of log).navs c → Steps rules log (open_chosen (asking rules (tree_of log) r asker noopener user) fragment url name c)
steps_opened rules log fragment r asker url name noopener user all short a Nothing h = (sync_fits rules (tree_of log) r asker a, tt)
steps_opened rules log fragment r asker url name noopener user all short a New h = (window_fits rules (tree_of log) r asker name noopener url a, tt)
steps_opened rules log fragment r asker None name noopener user all short a (Existing n) h = sync_steps rules log r asker n (noopener || n == nav_of (tree_of log) asker) a h
steps_opened rules log fragment r asker (Some url) name noopener user all short a (Existing n) h =
    let t : Tree = tree_of log in
    steps_if rules log (may_navigate t (nav_of t asker) n user)
    (record { entries = opener_entry t r asker noopener n ++ by r asker (navigation rules t (fragment n url) asker n url) ∷ []; outcome = made_or_null noopener n }) (one r asker what.Sync (reply.Security 7))
    (front_steps rules log (fragment n url) r asker n url (noopener || n == nav_of t asker) all short a h) (sync_fits rules t r asker a, tt)

link_fits : (rules : Rules) (t : Tree) (fragment : ℕ → List ℕ → Bool) (r asker : ℕ) (url name : List ℕ) (noopener user : Bool) → IsAsking t asker → (c : Choice) → IsChoiceBelow t.navs c
    → IsFit rules t (by r asker (link_chosen (asking rules t r asker noopener user) fragment url name c))
link_fits rules t fragment r asker url name noopener user a Nothing h = sync_fits rules t r asker a
link_fits rules t fragment r asker url name noopener user a New h = window_fits rules t r asker name noopener (Some url) a
link_fits rules t fragment r asker url name noopener user a (Existing n) h =
    fit_if rules t r asker (may_navigate t (nav_of t asker) n user) (navigation rules t (fragment n url) asker n url) what.Sync (λ may. navigation_fits rules t (fragment n url) r asker n url a h) (sync_fits rules t r asker a)

-- a document that is there, in the asker's group
near_below : (t : Tree) (asker doc : ℕ) → is_near t asker doc ≡ true → doc < t.docs
near_below t asker doc h = lt_of doc t.docs (both (nat_lt doc t.docs) (same_group t (nav_of t asker) (nav_of t doc)) h).0

live_below : (t : Tree) (asker doc : ℕ) → is_live t asker doc ≡ true → doc < t.docs
live_below t asker doc h = near_below t asker doc (both (is_near t asker doc) (is_active t doc) h).0

steps_if_open : (rules : Rules) (log : List Entry) (r asker doc : ℕ) (w : What) → IsAsking (tree_of log) asker → (doc < (tree_of log).docs → IsFit rules (tree_of log) (by r asker w)) → Steps rules log (if_open (tree_of log) r asker doc w)
steps_if_open rules log r asker doc w a fit =
    let t : Tree = tree_of log in
    steps_then rules log (is_live t asker doc) (if same_domain t asker doc then one r asker w reply.Done else one r asker what.Sync (reply.Security 8)) (one r asker what.Sync reply.Done)
    (λ live. steps_if rules log (same_domain t asker doc) (one r asker w reply.Done) (one r asker what.Sync (reply.Security 8)) (fit (live_below t asker doc live), tt) (sync_fits rules t r asker a, tt))
    (sync_fits rules t r asker a, tt)

AllStep : Rules → List Entry → Decision → Type 0
AllStep rules log d = Steps rules log d

domain_steps : (rules : Rules) (log : List Entry) (r asker : ℕ) (value : List ℕ) → IsAsking (tree_of log) asker → Steps rules log (domain_decision rules (tree_of log) r asker value)
unfolding AllStep
domain_steps rules log r asker value a =
    let t : Tree = tree_of log in
    domain_cases (AllStep rules log) rules t r asker value (λ n. (sync_fits rules t r asker a, tt))
    (λ effective e f. ((Relaxes r asker value effective a.there e f, fits t r asker (what.Domain asker value) a (rw (acts t r asker a, lt_true asker t.docs a.there) refl)), tt))

pub decide-steps : (rules : Rules) (log : List Entry) (fragment : ℕ → List ℕ → Bool) (r : ℕ) (q : Request) → AreAdmitted log → length log < 1073741825 → IsAsking (tree_of log) (asker_of q)
    → Steps rules log (decide rules (tree_of log) fragment r q)
unfolding decide is_maker
decide-steps rules log fragment r ask.Next all short a = tt
decide-steps rules log fragment r (ask.Sync asker) all short a = (sync_fits rules (tree_of log) r asker a, tt)
decide-steps rules log fragment r (ask.Frame asker name flags url) all short a = (frame_fits rules (tree_of log) r asker name (union flags (flags_in (tree_of log) (nav_of (tree_of log) asker))) url a, tt)
decide-steps rules log fragment r (ask.Drop asker nav) all short a =
    let t : Tree = tree_of log in (
      fit_if rules t r asker (is_in nav (children_of t asker)) (what.Drop nav) what.Sync
          (λ child. named_fits rules t r asker nav (what.Drop nav) a (in_below t.navs nav (children_of t asker) (children_below t a.well asker) child) refl refl) (sync_fits rules t r asker a),
      tt,
    )
decide-steps rules log fragment r (ask.Open asker url name noopener user) all short a =
    let t : Tree = tree_of log in
    steps_opened rules log fragment r asker url name noopener user all short a (choice t (nav_of t asker) name noopener user) (choice_below t a.well (nav_of t asker) name noopener user (a.well.below asker a.there))
decide-steps rules log fragment r (ask.Link asker url name noopener user) all short a =
    let t : Tree = tree_of log in
    (link_fits rules t fragment r asker url name noopener user a (choice t (nav_of t asker) name noopener user) (choice_below t a.well (nav_of t asker) name noopener user (a.well.below asker a.there)), tt)
decide-steps rules log fragment r (ask.Go asker doc url user) all short a =
    let t : Tree = tree_of log in
    steps_then rules log (is_live t asker doc) (if may_navigate t (nav_of t asker) (nav_of t doc) user then one r asker (navigation rules t (fragment (nav_of t doc) url) asker (nav_of t doc) url) reply.Done else one r asker what.Sync (reply.Security 7)) (one r asker what.Sync reply.Done)
    (λ live. steps_if rules log (may_navigate t (nav_of t asker) (nav_of t doc) user) (one r asker (navigation rules t (fragment (nav_of t doc) url) asker (nav_of t doc) url) reply.Done) (one r asker what.Sync (reply.Security 7))
    (navigation_fits rules t (fragment (nav_of t doc) url) r asker (nav_of t doc) url a (a.well.below doc (live_below t asker doc live)), tt) (sync_fits rules t r asker a, tt))
    (sync_fits rules t r asker a, tt)
decide-steps rules log fragment r (ask.Name asker doc name) all short a =
    let t : Tree = tree_of log in
    steps_if_open rules log r asker doc (what.Name (nav_of t doc) name) a (λ lt. named_fits rules t r asker (nav_of t doc) (what.Name (nav_of t doc) name) a (a.well.below doc lt) refl refl)
decide-steps rules log fragment r (ask.Disown asker doc) all short a =
    let t : Tree = tree_of log in
    steps_if_open rules log r asker doc (what.Opener (nav_of t doc) None) a
    (λ lt. quiet rules t r asker (what.Opener (nav_of t doc) None) a refl (rw (acts t r asker a, lt_true (nav_of t doc) t.navs (a.well.below doc lt)) refl))
decide-steps rules log fragment r (ask.Close asker doc user) all short a =
    let t : Tree = tree_of log in (
      fit_if rules t r asker (is_live t asker doc && may_close t (nav_of t asker) (nav_of t doc) user) (what.Closing (nav_of t doc)) what.Sync
          (λ may. named_fits rules t r asker (nav_of t doc) (what.Closing (nav_of t doc)) a (a.well.below doc (live_below t asker doc (both (is_live t asker doc) (may_close t (nav_of t asker) (nav_of t doc) user) may).0)) refl refl)
          (sync_fits rules t r asker a),
      tt,
    )
decide-steps rules log fragment r (ask.Post asker doc target body) all short a =
    let t : Tree = tree_of log in (
      fit_if rules t r asker (is_near t asker doc) (what.Post doc (nav_of t asker) (origin_of t asker) target body) what.Sync
          (λ near. quiet rules t r asker (what.Post doc (nav_of t asker) (origin_of t asker) target body) a refl
          (rw (acts t r asker a, lt_true doc t.docs (near_below t asker doc near), lt_true (nav_of t asker) t.navs (a.well.below asker a.there)) refl))
          (sync_fits rules t r asker a),
      tt,
    )
decide-steps rules log fragment r (ask.Domain asker value) all short a = domain_steps rules log r asker (map to_ascii_lowercase value) a
decide-steps rules log fragment r ask.More all short a = tt
