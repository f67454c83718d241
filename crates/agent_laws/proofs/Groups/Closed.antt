-- Every entry that an exchange, a start or a task adds keeps the tree closed.
use Rattle.std.proofs.Common.{◌≡◌, ℕ, ◌+◌, ◌<◌, ◌^◌, List, [], ◌∷◌, ◌++◌, length, Option, Some, None, Bool, true, false, refl, ap, sym, subst, ◌∙◌, if◌then◌else◌, arith, inl, inr}
use Rattle.std.specs.Prelude.{◌==◌, ◌||◌, ◌&&◌, map, unwrap_or}
use Rattle.std.specs.Char.{to_ascii_lowercase}
use Rattle.std.proofs.lemmas.Bool.{false≢true}
use Rattle.std.proofs.lemmas.Bool.Decides.{eqb_tells}
use Rattle.origin_core.specs.declared.origin.Origin.{Origin}
use Rattle.tree_log.specs.declared.entry.Entry.{Entry}
use Rattle.tree_log.specs.declared.entry.Load.{Load}
use Rattle.tree_log.specs.declared.entry.What.{What}
use Rattle.tree_log.specs.declared.entry.What.TheVariants as what
use Rattle.tree_log.specs.Facts.{at, Making, making, says_opener, with_frame, frames_after}
use Rattle.tree_log.specs.Tree.{Tree, tree_of, tree_after, tree_of_step, embedder, nav_of, origin_of, group_of, same_group, children_of, same_domain}
use Rattle.tree_log.specs.Admits.{admits_what, admits, AreAdmitted}
use Rattle.tree_log.proofs.Admitted.{what_admitted}
use Rattle.agent_terms.specs.declared.request.Request.{Request}
use Rattle.agent_terms.specs.declared.request.Request.TheVariants as ask
use Rattle.agent_terms.specs.declared.request.ReplyOutcome.TheVariants as reply
use Rattle.coordinator_rules.specs.NextTask.{next_task, task_entry}
use Rattle.coordinator_rules.specs.Navigation.{is_in, may_navigate, may_close, Choice, Existing, New, Nothing, choice}
use Rattle.coordinator_rules.specs.Decision.{asking, Rules, Decision, decide, exchange, asker_of, task_decision, by, one, navigation, new_window, made_or_null, opener_entry, or_sync, open_chosen, link_chosen, if_open, is_live, is_near}
use Rattle.single_agent.proofs.Admitted.{task_admitted}
use Rattle.agent_laws.specs.Actors.{has_no_asker}
use Rattle.agent_laws.specs.Wellness.{IsWell}
use Rattle.agent_laws.specs.Belonging.{IsClosed}
use Rattle.agent_laws.proofs.Logs.Lists.{in_below}
use Rattle.agent_laws.proofs.Logs.Entries.{entry, at_cases, at_self, open_next}
use Rattle.agent_laws.proofs.Groups.Well.{as_top, as_frame, more_navs, well_at_step, admitted_well}
use Rattle.agent_laws.proofs.Groups.Choices.{has_group, chosen_below}
use Rattle.agent_laws.proofs.Logs.Older.{made_stays, group_stays, group_of_top}
use Rattle.agent_laws.proofs.Logs.Exchanges.{decided_or_none, without_asker, domain_cases}
use Rattle.agent_laws.proofs.Logs.Admitted.{exchange_admitted}
use Rattle.agent_laws.proofs.Groups.Grouped.{group_same, same_from}
use Rattle.agent_laws.proofs.Groups.Chosen.{chosen_in_group}

-- FRAMES

abbrev FramesEmbedded : Tree → Type 0
FramesEmbedded t = (d n : ℕ) → is_in n (t.frames d) ≡ true → embedder t n ≡ Some d

last_is : (n nav : ℕ) (xs : List ℕ) → is_in n xs ≡ false → is_in n (xs ++ nav ∷ []) ≡ true → (nav == n) ≡ true
last_is n nav [] out i = alone (nav == n) i
  where
    alone : (b : Bool) → (b || false) ≡ true → b ≡ true
    alone true i = refl
    alone false i = i
last_is n nav (x ∷ xs) out i = here (x == n) out i (λ o k. last_is n nav xs o k)
  where
    here : (b : Bool) → (b || is_in n xs) ≡ false → (b || is_in n (xs ++ nav ∷ [])) ≡ true → (is_in n xs ≡ false → is_in n (xs ++ nav ∷ []) ≡ true → (nav == n) ≡ true) → (nav == n) ≡ true
    here true out i later = absurd cc
    here false out i later = later out i

-- a navigable that is new among the frames of d is embedded in it
new_frame : (d n : ℕ) (actor : Option ℕ) (w : What) (xs : List ℕ) (m : Making) → is_in n xs ≡ false → is_in n (frames_after d actor w xs) ≡ true → (unwrap_or (making n actor w) m).embedder ≡ Some d
new_frame d n actor (what.Frame nav doc home origin name flags load) xs m out i = framed actor i
  where
    here : (a : ℕ) → (nav == n) ≡ true → a ≡ d → (unwrap_or (at n nav (as_frame (Some a) flags)) m).embedder ≡ Some d
    here a is same = rw is (ap (λ (x : ℕ). Some x) same)

    framed : (a : Option ℕ) → is_in n (with_frame d a nav xs) ≡ true → (unwrap_or (at n nav (as_frame a flags)) m).embedder ≡ Some d
    framed None i = absurd (let clash : false ≡ true = sym out ∙ i in cc)
    framed (Some a) i = elim (eqb_tells a d) [
      | inl p ↦ here a (last_is n nav xs out (subst (λ (b : Bool). is_in n (if b then xs ++ nav ∷ [] else xs) ≡ true) p.0 i)) p.1
      | inr p ↦ absurd (let clash : false ≡ true = sym out ∙ subst (λ (b : Bool). is_in n (if b then xs ++ nav ∷ [] else xs) ≡ true) p.0 i in cc)
    ]
new_frame d n actor w xs m out i = absurd (let clash : false ≡ true = sym out ∙ i in cc)

new_at_step : (t : Tree) (e : Entry) (d n : ℕ) → is_in n (t.frames d) ≡ false → is_in n ((tree_after t e).frames d) ≡ true → embedder (tree_after t e) n ≡ Some d
unfolding tree_after
new_at_step t e d n out i = new_frame d n e.actor e.what (t.frames d) (t.nav n).made out i

embedded_at_step : (t : Tree) (e : Entry) → admits t e ≡ true → IsWell t → FramesEmbedded t → FramesEmbedded (tree_after t e)
embedded_at_step t e h well old d n i = by_old (is_in n (t.frames d)) refl
  where
    by_old : (b : Bool) → is_in n (t.frames d) ≡ b → embedder (tree_after t e) n ≡ Some d
    by_old true k = ap (λ (m : Making). m.embedder) (made_stays t e h n (in_below t.navs n (t.frames d) (well.frames d) k)) ∙ old d n k
    by_old false k = new_at_step t e d n k i

embedded_at_start : FramesEmbedded (tree_of [])
unfolding tree_of
embedded_at_start d n i = absurd (false≢true i)

-- the frames of a document are embedded in it
pub frames_embedded : (log : List Entry) → AreAdmitted log → (d n : ℕ) → is_in n ((tree_of log).frames d) ≡ true → embedder (tree_of log) n ≡ Some d
frames_embedded [] all = embedded_at_start
frames_embedded (e ∷ older) all =
    subst FramesEmbedded (sym (tree_of_step e older)) (embedded_at_step (tree_of older) e all.0 (admitted_well older all.1) (frames_embedded older all.1))

-- WHAT AN ENTRY SAYS OF OPENERS

-- the opener of a new window is of the window's group
abbrev OpenerIn : Tree → ℕ → Option ℕ → Type 0
OpenerIn t group None = Unit {0}
OpenerIn t group (Some m) = (m < t.navs) × (group_of t m ≡ Some group)

-- and one that is set is of the group of the window that it is set for
abbrev SetIn : Tree → ℕ → Option ℕ → Type 0
SetIn t n None = Unit {0}
SetIn t n (Some m) = (n < t.navs) × (m < t.navs) × (group_of t n ≡ group_of t m)

abbrev pub OpensIn : Tree → What → Type 0
OpensIn t (what.Open nav doc group home origin name opener flags navigator load) = OpenerIn t group opener
OpensIn t (what.Opener n to) = SetIn t n to
OpensIn t w = Unit {0}

abbrev pub AllOpenIn : Tree → List Entry → Type 0
AllOpenIn t [] = Unit {0}
AllOpenIn t (e ∷ es) = OpensIn t e.what × AllOpenIn t es

-- what was of one group is so once an entry more was admitted
opener_later : (t : Tree) (e : Entry) → admits t e ≡ true → IsWell t → (group : ℕ) (o : Option ℕ) → OpenerIn t group o → OpenerIn (tree_after t e) group o
opener_later t e h well group None k = tt
opener_later t e h well group (Some m) k = let lt : m < t.navs = k.0 in (omega (arith, more_navs t e), group_stays t e h well m lt ∙ k.1)

set_later : (t : Tree) (e : Entry) → admits t e ≡ true → IsWell t → (n : ℕ) (o : Option ℕ) → SetIn t n o → SetIn (tree_after t e) n o
set_later t e h well n None k = tt
set_later t e h well n (Some m) k =
    let ln : n < t.navs = k.0 in
    let lm : m < t.navs = k.1 in
    (omega (arith, more_navs t e), omega (arith, more_navs t e), group_stays t e h well n ln ∙ k.2 ∙ sym (group_stays t e h well m lm))

opens_later : (t : Tree) (e : Entry) → admits t e ≡ true → IsWell t → (w : What) → OpensIn t w → OpensIn (tree_after t e) w
opens_later t e h well (what.Open nav doc group home origin name opener flags navigator load) k = opener_later t e h well group opener k
opens_later t e h well (what.Opener n to) k = set_later t e h well n to k
opens_later t e h well w k = tt

opens_after : (log es : List Entry) → AreAdmitted (es ++ log) → (w : What) → OpensIn (tree_of log) w → OpensIn (tree_of (es ++ log)) w
opens_after log [] all w k = k
opens_after log (e ∷ es) all w k =
    subst (λ (t : Tree). OpensIn t w) (sym (tree_of_step e (es ++ log))) (opens_later (tree_of (es ++ log)) e all.0 (admitted_well (es ++ log) all.1) w (opens_after log es all.1 w k))

-- OPENERS

abbrev IsPair : Tree → ℕ → ℕ → Type 0
IsPair t n m = (n < t.navs) × (m < t.navs) × (same_group t n m ≡ true)

pair_stays : (t : Tree) (e : Entry) → admits t e ≡ true → IsWell t → (n m : ℕ) → n < t.navs → m < t.navs → group_of t n ≡ group_of t m → IsPair (tree_after t e) n m
pair_stays t e h well n m ln lm same =
    let there : n < (tree_after t e).navs = omega (arith, more_navs t e) in (
      there,
      omega (arith, more_navs t e),
      same_from (tree_after t e) (well_at_step t e h well) n m there (group_stays t e h well n ln ∙ same ∙ sym (group_stays t e h well m lm)),
    )

-- a new top-level
more_at_open : (t : Tree) (by actor : Option ℕ) (nav doc group home : ℕ) (origin : Origin) (name : List ℕ) (opener : Option ℕ) (flags : ℕ) (navigator : Option ℕ) (load : Option Load)
    → (tree_after t (entry by actor (what.Open nav doc group home origin name opener flags navigator load))).navs ≡ t.navs + 1
unfolding tree_after
more_at_open t by actor nav doc group home origin name opener flags navigator load = refl

made_at_open : (t : Tree) (by actor : Option ℕ) (nav doc group home : ℕ) (origin : Origin) (name : List ℕ) (opener : Option ℕ) (flags : ℕ) (navigator : Option ℕ) (load : Option Load)
    → ((tree_after t (entry by actor (what.Open nav doc group home origin name opener flags navigator load))).nav nav).made ≡ as_top actor group flags navigator
unfolding tree_after
made_at_open t by actor nav doc group home origin name opener flags navigator load = at_self nav (as_top actor group flags navigator) (t.nav nav).made

-- a new window and its opener
new_pair : (t : Tree) (by actor : Option ℕ) (nav doc group home : ℕ) (origin : Origin) (name : List ℕ) (opener : Option ℕ) (flags : ℕ) (navigator : Option ℕ) (load : Option Load) (m : ℕ)
    → admits t (entry by actor (what.Open nav doc group home origin name opener flags navigator load)) ≡ true → IsWell t → OpenerIn t group (Some m)
    → IsPair (tree_after t (entry by actor (what.Open nav doc group home origin name opener flags navigator load))) nav m
new_pair t by actor nav doc group home origin name opener flags navigator load m h well k =
    let e : Entry = entry by actor (what.Open nav doc group home origin name opener flags navigator load) in
    let next = open_next t by actor nav doc group home origin name opener flags navigator load (what_admitted t e h) in
    let is : nav ≡ t.navs = next.new_nav in
    let lm : m < t.navs = k.0 in
    let more : (tree_after t e).navs ≡ t.navs + 1 = more_at_open t by actor nav doc group home origin name opener flags navigator load in
    let made : ((tree_after t e).nav nav).made ≡ as_top actor group flags navigator = made_at_open t by actor nav doc group home origin name opener flags navigator load in
    let there : nav < (tree_after t e).navs = omega arith in (
      there,
      omega arith,
      same_from (tree_after t e) (well_at_step t e h well) nav m there
          (group_of_top (tree_after t e) nav (ap (λ (x : Making). x.embedder) made) ∙ ap (λ (x : Making). x.group) made ∙ sym (group_stays t e h well m lm ∙ k.1)),
    )

old_pair : (t : Tree) (e : Entry) → admits t e ≡ true → IsClosed t → (n m : ℕ) → (t.nav n).opener ≡ Some m → IsPair (tree_after t e) n m
old_pair t e h closed n m is = let old = closed.openers n m is in pair_stays t e h closed.well n m old.0 old.1 (group_same t n m old.2)

opener_at_step : (t : Tree) (by actor : Option ℕ) (w : What) → admits t (entry by actor w) ≡ true → OpensIn t w → IsClosed t → (n m : ℕ) → unwrap_or (says_opener n w) (t.nav n).opener ≡ Some m
    → IsPair (tree_after t (entry by actor w)) n m
opener_at_step t by actor (what.Open nav doc group home origin name opener flags navigator load) h k closed n m is =
    let e : Entry = entry by actor (what.Open nav doc group home origin name opener flags navigator load) in
    at_cases (λ (o : Option ℕ). o ≡ Some m → IsPair (tree_after t e) n m) n nav opener (t.nav n).opener
    (λ same to. subst (λ (x : ℕ). IsPair (tree_after t e) x m) same
    (new_pair t by actor nav doc group home origin name opener flags navigator load m h closed.well (subst (OpenerIn t group) to k)))
    (λ other to. old_pair t e h closed n m to) is
opener_at_step t by actor (what.Opener nav opener) h k closed n m is =
    let e : Entry = entry by actor (what.Opener nav opener) in
    at_cases (λ (o : Option ℕ). o ≡ Some m → IsPair (tree_after t e) n m) n nav opener (t.nav n).opener
    (λ same to. subst (λ (x : ℕ). IsPair (tree_after t e) x m) same (let set : SetIn t nav (Some m) = subst (SetIn t nav) to k in pair_stays t e h closed.well nav m set.0 set.1 set.2))
    (λ other to. old_pair t e h closed n m to) is
opener_at_step t by actor w h k closed n m is = old_pair t (entry by actor w) h closed n m is

opener_after : (t : Tree) (e : Entry) (n : ℕ) → ((tree_after t e).nav n).opener ≡ unwrap_or (says_opener n e.what) (t.nav n).opener
unfolding tree_after
opener_after t e n = refl

-- an entry keeps the tree closed
closed_at_step : (t : Tree) (e : Entry) → admits t e ≡ true → OpensIn t e.what → IsClosed t → IsClosed (tree_after t e)
closed_at_step t e h k closed = record {
  well = well_at_step t e h closed.well;
  openers = λ n m is. opener_at_step t e.by e.actor e.what h k closed n m (sym (opener_after t e n) ∙ is);
  frames = embedded_at_step t e h closed.well closed.frames;
}

no_openers : (n m : ℕ) → ((tree_of []).nav n).opener ≡ Some m → IsPair (tree_of []) n m
unfolding tree_of
no_openers n m is = absurd cc

pub closed_at_start : IsClosed (tree_of [])
closed_at_start = record { well = admitted_well [] tt; openers = no_openers; frames = embedded_at_start }

-- entries that say of openers what was so before them keep the tree closed
pub entries_closed : (log es : List Entry) → AreAdmitted (es ++ log) → AllOpenIn (tree_of log) es → IsClosed (tree_of log) → IsClosed (tree_of (es ++ log))
entries_closed log [] all k closed = closed
entries_closed log (e ∷ es) all k closed =
    subst IsClosed (sym (tree_of_step e (es ++ log)))
    (closed_at_step (tree_of (es ++ log)) e all.0 (opens_after log es all.1 e.what k.0) (entries_closed log es all.1 k.1 closed))

-- DECISIONS

abbrev DecidesIn : Tree → Decision → Type 0
DecidesIn t d = AllOpenIn t d.entries

decides_if : (t : Tree) (b : Bool) (c d : Decision) → DecidesIn t c → DecidesIn t d → DecidesIn t (if b then c else d)
decides_if t true c d h k = h
decides_if t false c d h k = k

opens_if : (t : Tree) (b : Bool) (v w : What) → OpensIn t v → OpensIn t w → OpensIn t (if b then v else w)
opens_if t true v w h k = h
opens_if t false v w h k = k

navigation_opens : (rules : Rules) (t : Tree) (fragment : Bool) (asker n : ℕ) (url : List ℕ) → OpensIn t (navigation rules t fragment asker n url)
navigation_opens rules t true asker n url = tt
navigation_opens rules t false asker n url = tt

-- a new window's opener is the asker's navigable, whose group it has
window_opens : (rules : Rules) (t : Tree) (asker : ℕ) (name : List ℕ) (noopener : Bool) (url : Option (List ℕ)) → IsClosed t → asker < t.docs → OpensIn t (new_window rules t asker name noopener url)
window_opens rules t asker name true url closed there = tt
window_opens rules t asker name false url closed there =
    let lt : nav_of t asker < t.navs = closed.well.below asker there in
    let found = has_group t closed.well (nav_of t asker) lt in
    (lt, rw (found.1) refl)

-- a navigable of the asker's group gets the asker's as its opener
set_in : (t : Tree) (asker n : ℕ) → IsClosed t → asker < t.docs → n < t.navs → same_group t (nav_of t asker) n ≡ true → SetIn t n (Some (nav_of t asker))
set_in t asker n closed there lt same = (lt, closed.well.below asker there, sym (group_same t (nav_of t asker) n same))

-- a choice of a navigable of the asker's group
abbrev pub ChoosesIn : Tree → ℕ → Choice → Type 0
ChoosesIn t asker c = (n : ℕ) → c ≡ Existing n → (n < t.navs) × (same_group t (nav_of t asker) n ≡ true)

pub asker_chooses : (t : Tree) → IsClosed t → (asker : ℕ) (name : List ℕ) (noopener user : Bool) → asker < t.docs → ChoosesIn t asker (choice t (nav_of t asker) name noopener user)
asker_chooses t closed asker name noopener user there n is =
    let lt : nav_of t asker < t.navs = closed.well.below asker there in
    (chosen_below t closed.well (nav_of t asker) name noopener user n lt is, chosen_in_group t closed (nav_of t asker) name noopener user n lt is)

front_opens : (t : Tree) (r asker n : ℕ) (b : Bool) (w : What) → SetIn t n (Some (nav_of t asker)) → OpensIn t w
    → AllOpenIn t ((if b then [] else by r asker (what.Opener n (Some (nav_of t asker))) ∷ []) ++ by r asker w ∷ [])
front_opens t r asker n true w h k = (k, tt)
front_opens t r asker n false w h k = (h, (k, tt))

sync_opens : (t : Tree) (r asker n : ℕ) (b : Bool) → SetIn t n (Some (nav_of t asker)) → AllOpenIn t (or_sync r asker (if b then [] else by r asker (what.Opener n (Some (nav_of t asker))) ∷ []))
sync_opens t r asker n true h = (tt, tt)
sync_opens t r asker n false h = (h, tt)

chosen_opens : (rules : Rules) (t : Tree) (fragment : ℕ → List ℕ → Bool) (r asker : ℕ) (url : Option (List ℕ)) (name : List ℕ) (noopener user : Bool) → IsClosed t → asker < t.docs → (c : Choice) → ChoosesIn t asker c
    → DecidesIn t (open_chosen (asking rules t r asker noopener user) fragment url name c)
chosen_opens rules t fragment r asker url name noopener user closed there Nothing h = (tt, tt)
chosen_opens rules t fragment r asker url name noopener user closed there New h = (window_opens rules t asker name noopener url closed there, tt)
chosen_opens rules t fragment r asker None name noopener user closed there (Existing n) h =
    sync_opens t r asker n (noopener || n == nav_of t asker) (set_in t asker n closed there (h n refl).0 (h n refl).1)
chosen_opens rules t fragment r asker (Some url) name noopener user closed there (Existing n) h =
    decides_if t (may_navigate t (nav_of t asker) n user)
    (record { entries = opener_entry t r asker noopener n ++ by r asker (navigation rules t (fragment n url) asker n url) ∷ []; outcome = made_or_null noopener n }) (one r asker what.Sync (reply.Security 7))
    (front_opens t r asker n (noopener || n == nav_of t asker) (navigation rules t (fragment n url) asker n url) (set_in t asker n closed there (h n refl).0 (h n refl).1) (navigation_opens rules t (fragment n url) asker n url))
    (tt, tt)

link_opens : (rules : Rules) (t : Tree) (r : ℕ) (fragment : ℕ → List ℕ → Bool) (asker : ℕ) (url name : List ℕ) (noopener user : Bool) → IsClosed t → asker < t.docs → (c : Choice) → OpensIn t (link_chosen (asking rules t r asker noopener user) fragment url name c)
link_opens rules t r fragment asker url name noopener user closed there Nothing = tt
link_opens rules t r fragment asker url name noopener user closed there New = window_opens rules t asker name noopener (Some url) closed there
link_opens rules t r fragment asker url name noopener user closed there (Existing n) =
    opens_if t (may_navigate t (nav_of t asker) n user) (navigation rules t (fragment n url) asker n url) what.Sync (navigation_opens rules t (fragment n url) asker n url) tt

live_opens : (t : Tree) (r asker doc : ℕ) (w : What) → OpensIn t w → DecidesIn t (if_open t r asker doc w)
live_opens t r asker doc w k =
    decides_if t (is_live t asker doc) (if same_domain t asker doc then one r asker w reply.Done else one r asker what.Sync (reply.Security 8)) (one r asker what.Sync reply.Done)
    (decides_if t (same_domain t asker doc) (one r asker w reply.Done) (one r asker what.Sync (reply.Security 8)) (k, tt) (tt, tt))
    (tt, tt)

decide_opens : (rules : Rules) (t : Tree) (fragment : ℕ → List ℕ → Bool) (r : ℕ) (q : Request) → IsClosed t → asker_of q < t.docs → DecidesIn t (decide rules t fragment r q)
unfolding decide
decide_opens rules t fragment r ask.Next closed there = tt
decide_opens rules t fragment r (ask.Sync asker) closed there = (tt, tt)
decide_opens rules t fragment r (ask.Frame asker name flags url) closed there = (tt, tt)
decide_opens rules t fragment r (ask.Drop asker nav) closed there = (opens_if t (is_in nav (children_of t asker)) (what.Drop nav) what.Sync tt tt, tt)
decide_opens rules t fragment r (ask.Open asker url name noopener user) closed there =
    chosen_opens rules t fragment r asker url name noopener user closed there (choice t (nav_of t asker) name noopener user) (asker_chooses t closed asker name noopener user there)
decide_opens rules t fragment r (ask.Link asker url name noopener user) closed there =
    (link_opens rules t r fragment asker url name noopener user closed there (choice t (nav_of t asker) name noopener user), tt)
decide_opens rules t fragment r (ask.Go asker doc url user) closed there =
    decides_if t (is_live t asker doc) (if may_navigate t (nav_of t asker) (nav_of t doc) user then one r asker (navigation rules t (fragment (nav_of t doc) url) asker (nav_of t doc) url) reply.Done else one r asker what.Sync (reply.Security 7)) (one r asker what.Sync reply.Done)
    (decides_if t (may_navigate t (nav_of t asker) (nav_of t doc) user) (one r asker (navigation rules t (fragment (nav_of t doc) url) asker (nav_of t doc) url) reply.Done) (one r asker what.Sync (reply.Security 7))
    (navigation_opens rules t (fragment (nav_of t doc) url) asker (nav_of t doc) url, tt) (tt, tt))
    (tt, tt)
decide_opens rules t fragment r (ask.Name asker doc name) closed there = live_opens t r asker doc (what.Name (nav_of t doc) name) tt
decide_opens rules t fragment r (ask.Disown asker doc) closed there = live_opens t r asker doc (what.Opener (nav_of t doc) None) tt
decide_opens rules t fragment r (ask.Close asker doc user) closed there =
    (opens_if t (is_live t asker doc && may_close t (nav_of t asker) (nav_of t doc) user) (what.Closing (nav_of t doc)) what.Sync tt tt, tt)
decide_opens rules t fragment r (ask.Post asker doc target body) closed there =
    (opens_if t (is_near t asker doc) (what.Post doc (nav_of t asker) (origin_of t asker) target body) what.Sync tt tt, tt)
decide_opens rules t fragment r (ask.Domain asker value) closed there = domain_cases (DecidesIn t) rules t r asker (map to_ascii_lowercase value) (λ n. (tt, tt)) (λ effective e f. (tt, tt))
decide_opens rules t fragment r ask.More closed there = tt

-- EXCHANGES

-- an entry that no document acts in says nothing of openers
task_opens : (t : Tree) (r : ℕ) (w : What) → admits_what t (Some r) None w ≡ true → OpensIn t w
task_opens t r (what.Open nav doc group home origin name opener flags navigator load) h =
    absurd (false≢true h)
task_opens t r (what.Opener n to) h = absurd (false≢true h)
task_opens t r w h = tt

pub task_entry_opens : (log : List Entry) (r : ℕ) (w : What) → AreAdmitted log → length log < 2 ^ 30 → next_task log r ≡ Some w → OpensIn (tree_of log) w
task_entry_opens log r w all short next = task_opens (tree_of log) r w (what_admitted (tree_of log) (task_entry r w) (task_admitted log r w all short next))

task_decides : (t : Tree) (r place : ℕ) (o : Option What) → ((w : What) → o ≡ Some w → OpensIn t w) → DecidesIn t (task_decision r place o)
task_decides t r place None h = tt
task_decides t r place (Some w) h = (h w refl, tt)

next_decides : (rules : Rules) (log : List Entry) (r : ℕ) → AreAdmitted log → length log < 2 ^ 30 → DecidesIn (tree_of log) (exchange rules log r ask.Next)
unfolding exchange
next_decides rules log r all short = task_decides (tree_of log) r (length log) (next_task log r) (λ w next. task_entry_opens log r w all short next)

AllDecideIn : List Entry → Decision → Type 0
AllDecideIn log d = DecidesIn (tree_of log) d

request_decides : (rules : Rules) (log : List Entry) (r : ℕ) (q : Request) → has_no_asker q ≡ false → IsClosed (tree_of log) → AllDecideIn log (exchange rules log r q)
unfolding AllDecideIn
request_decides rules log r q other closed =
    decided_or_none (AllDecideIn log) rules log r q other tt tt (λ been home active. decide_opens rules (tree_of log) _ r q closed (closed.well.shown (asker_of q) been))

-- what an exchange says of openers
pub exchange_opens : (rules : Rules) (log : List Entry) (r : ℕ) (q : Request) → AreAdmitted log → length log < 2 ^ 30 → IsClosed (tree_of log) → AllOpenIn (tree_of log) (exchange rules log r q).entries
unfolding AllDecideIn
exchange_opens rules log r q all short closed = by_kind (has_no_asker q) refl
  where
    by_kind : (b : Bool) → has_no_asker q ≡ b → DecidesIn (tree_of log) (exchange rules log r q)
    by_kind true e = without_asker (DecidesIn (tree_of log)) rules log r q e (next_decides rules log r all short) tt
    by_kind false e = request_decides rules log r q e closed

-- the entries of an exchange keep the tree closed
pub closed_exchange : (rules : Rules) (log : List Entry) (r : ℕ) (q : Request) → AreAdmitted log → length log < 2 ^ 30 → IsClosed (tree_of log) → IsClosed (tree_of ((exchange rules log r q).entries ++ log))
closed_exchange rules log r q all short closed = entries_closed log (exchange rules log r q).entries (exchange_admitted rules log r q all short) (exchange_opens rules log r q all short closed) closed
