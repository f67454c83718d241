-- A window that an exchange gives to a document is there, in the document's group.
use Rattle.std.proofs.Common.{◌≡◌, ℕ, ◌+◌, ◌<◌, ◌^◌, List, [], ◌∷◌, ◌++◌, length, Option, Some, None, Bool, true, false, refl, ap, sym, subst, ◌∙◌, if◌then◌else◌, arith}
use Rattle.std.specs.Prelude.{map, unwrap_or}
use Rattle.std.specs.Char.{to_ascii_lowercase}
use Rattle.origin_core.specs.Flags.{union}
use Rattle.window_props.specs.declared.value.Value.TheVariants as value
use Rattle.tree_log.specs.declared.entry.Entry.{Entry}
use Rattle.tree_log.specs.declared.entry.What.{What}
use Rattle.tree_log.specs.declared.entry.What.TheVariants as what
use Rattle.tree_log.specs.Facts.{Making}
use Rattle.tree_log.specs.Tree.{Tree, tree_of, tree_after, tree_of_step, nav_of, group_of, same_domain}
use Rattle.tree_log.specs.Admits.{admits, AreAdmitted}
use Rattle.agent_terms.specs.declared.request.Request.{Request}
use Rattle.agent_terms.specs.declared.request.Request.TheVariants as ask
use Rattle.agent_terms.specs.declared.request.ReplyOutcome.{ReplyOutcome}
use Rattle.agent_terms.specs.declared.request.ReplyOutcome.TheVariants as reply
use Rattle.coordinator_rules.specs.NextTask.{next_task}
use Rattle.coordinator_rules.specs.Navigation.{flags_in, may_navigate, Choice, Existing, New, Nothing, choice}
use Rattle.coordinator_rules.specs.Decision.{asking, Rules, Decision, decide, exchange, asker_of, task_decision, by, one, group_in, navigation, frame_entry, new_window, made_or_null, opener_entry, or_sync, open_chosen, is_live}
use Rattle.agent_laws.specs.Actors.{has_no_asker}
use Rattle.agent_laws.specs.Wellness.{IsWell}
use Rattle.agent_laws.specs.Belonging.{Belongs, IsClosed}
use Rattle.agent_laws.proofs.Logs.Entries.{at_self}
use Rattle.agent_laws.proofs.Groups.Well.{as_frame, more_docs, well_at_step}
use Rattle.agent_laws.proofs.Groups.Choices.{has_group}
use Rattle.agent_laws.proofs.Logs.Older.{group_of_doc, group_of_doc_stays, group_of_child, group_of_top}
use Rattle.agent_laws.proofs.Logs.Exchanges.{decided_or_none, without_asker, domain_cases}
use Rattle.agent_laws.proofs.Logs.Admitted.{exchange_admitted}
use Rattle.agent_laws.proofs.Groups.Grouped.{same_from, belongs_grown}
use Rattle.agent_laws.proofs.Groups.Closed.{ChoosesIn, asker_chooses}

-- NEW NAVIGABLES

-- a new navigable that has the group of a document that was there
new_belongs : (t : Tree) (e : Entry) (asker : ℕ) → admits t e ≡ true → IsWell t → asker < t.docs → (tree_after t e).navs ≡ t.navs + 1 → group_of_doc (tree_after t e) asker ≡ group_of (tree_after t e) t.navs
    → Belongs (tree_after t e) asker (value.Window t.navs)
new_belongs t e asker h well lt more same =
    let there : asker < (tree_after t e).docs = omega (arith, more_docs t e) in
    (there, omega arith, same_from (tree_after t e) (well_at_step t e h well) (nav_of (tree_after t e) asker) t.navs ((well_at_step t e h well).below asker there) same)

more_at_frame : (rules : Rules) (t : Tree) (r asker : ℕ) (name : List ℕ) (flags : ℕ) (url : Option (List ℕ)) → (tree_after t (by r asker (frame_entry rules t asker name flags url))).navs ≡ t.navs + 1
unfolding tree_after
more_at_frame rules t r asker name flags url = refl

made_at_frame : (rules : Rules) (t : Tree) (r asker : ℕ) (name : List ℕ) (flags : ℕ) (url : Option (List ℕ)) → ((tree_after t (by r asker (frame_entry rules t asker name flags url))).nav t.navs).made ≡ as_frame (Some asker) flags
unfolding tree_after
made_at_frame rules t r asker name flags url = at_self t.navs (as_frame (Some asker) flags) (t.nav t.navs).made

frame_belongs : (rules : Rules) (t : Tree) (r asker : ℕ) (name : List ℕ) (flags : ℕ) (url : Option (List ℕ)) → admits t (by r asker (frame_entry rules t asker name flags url)) ≡ true → IsWell t → asker < t.docs
    → Belongs (tree_after t (by r asker (frame_entry rules t asker name flags url))) asker (value.Window t.navs)
frame_belongs rules t r asker name flags url h well lt =
    let e : Entry = by r asker (frame_entry rules t asker name flags url) in
    new_belongs t e asker h well lt (more_at_frame rules t r asker name flags url)
    (sym (group_of_child (tree_after t e) (well_at_step t e h well) t.navs asker (ap (λ (m : Making). m.embedder) (made_at_frame rules t r asker name flags url))))

some_group : (o : Option ℕ) (g : ℕ) → o ≡ Some g → o ≡ Some (unwrap_or o 0)
some_group o g is = rw is refl

more_at_window : (rules : Rules) (t : Tree) (r asker : ℕ) (name : List ℕ) (url : Option (List ℕ)) → (tree_after t (by r asker (new_window rules t asker name false url))).navs ≡ t.navs + 1
unfolding tree_after
more_at_window rules t r asker name url = refl

made_at_window : (rules : Rules) (t : Tree) (r asker : ℕ) (name : List ℕ) (url : Option (List ℕ))
    → (((tree_after t (by r asker (new_window rules t asker name false url))).nav t.navs).made.embedder ≡ None) × (((tree_after t (by r asker (new_window rules t asker name false url))).nav t.navs).made.group ≡ Some (group_in t (nav_of t asker)))
unfolding tree_after
made_at_window rules t r asker name url = (ap (λ (m : Making). m.embedder) (at_self t.navs _ (t.nav t.navs).made), ap (λ (m : Making). m.group) (at_self t.navs _ (t.nav t.navs).made))

-- a new window with an opener
window_belongs : (rules : Rules) (t : Tree) (r asker : ℕ) (name : List ℕ) (url : Option (List ℕ)) → admits t (by r asker (new_window rules t asker name false url)) ≡ true → IsWell t → asker < t.docs
    → Belongs (tree_after t (by r asker (new_window rules t asker name false url))) asker (value.Window t.navs)
window_belongs rules t r asker name url h well lt =
    let e : Entry = by r asker (new_window rules t asker name false url) in
    let found = has_group t well (nav_of t asker) (well.below asker lt) in
    let made = made_at_window rules t r asker name url in
    new_belongs t e asker h well lt (more_at_window rules t r asker name url)
    (group_of_doc_stays t e h well asker lt ∙ some_group (group_of t (nav_of t asker)) found.0 found.1
    ∙ sym (group_of_top (tree_after t e) t.navs made.0 ∙ made.1))

-- DECISIONS

abbrev MakesIn : List Entry → ℕ → Decision → Type 0
MakesIn log asker d = (nav : ℕ) → AreAdmitted (d.entries ++ log) → d.outcome ≡ reply.Made nav → Belongs (tree_of (d.entries ++ log)) asker (value.Window nav)

makes_if : (log : List Entry) (asker : ℕ) (b : Bool) (c d : Decision) → MakesIn log asker c → MakesIn log asker d → MakesIn log asker (if b then c else d)
makes_if log asker true c d h k = h
makes_if log asker false c d h k = k

-- an outcome that gives no window
makes_none : (log : List Entry) (r asker : ℕ) (w : What) (o : ReplyOutcome) → ((nav : ℕ) → o ≡ reply.Made nav → ⊥) → MakesIn log asker (one r asker w o)
makes_none log r asker w o none nav all is = absurd (none nav is)

none_twice : (log : List Entry) (r asker : ℕ) (a b : Bool) (v w : What) (n : ℕ) → MakesIn log asker (if a then if b then one r asker w reply.Done else one r asker v (reply.Security n) else one r asker v reply.Done)
none_twice log r asker true true v w n nav all is = absurd cc
none_twice log r asker true false v w n nav all is = absurd cc
none_twice log r asker false b v w n nav all is = absurd cc

makes_frame : (rules : Rules) (log : List Entry) (r asker : ℕ) (name : List ℕ) (flags : ℕ) (url : Option (List ℕ)) → IsWell (tree_of log) → asker < (tree_of log).docs
    → MakesIn log asker (one r asker (frame_entry rules (tree_of log) asker name flags url) (reply.Made (tree_of log).navs))
makes_frame rules log r asker name flags url well there nav all is =
    let t : Tree = tree_of log in
    let e : Entry = by r asker (frame_entry rules t asker name flags url) in
    let same : t.navs ≡ nav = cc in
    subst (λ (n : ℕ). Belongs (tree_of (e ∷ log)) asker (value.Window n)) same
    (subst (λ (s : Tree). Belongs s asker (value.Window t.navs)) (sym (tree_of_step e log)) (frame_belongs rules t r asker name flags url all.0 well there))

makes_window : (rules : Rules) (log : List Entry) (r asker : ℕ) (name : List ℕ) (noopener : Bool) (url : Option (List ℕ)) → IsWell (tree_of log) → asker < (tree_of log).docs
    → MakesIn log asker (one r asker (new_window rules (tree_of log) asker name noopener url) (made_or_null noopener (tree_of log).navs))
makes_window rules log r asker name true url well there nav all is = absurd cc
makes_window rules log r asker name false url well there nav all is =
    let t : Tree = tree_of log in
    let e : Entry = by r asker (new_window rules t asker name false url) in
    let same : t.navs ≡ nav = cc in
    subst (λ (n : ℕ). Belongs (tree_of (e ∷ log)) asker (value.Window n)) same
    (subst (λ (s : Tree). Belongs s asker (value.Window t.navs)) (sym (tree_of_step e log)) (window_belongs rules t r asker name url all.0 well there))

-- a window that was there
makes_existing : (log es : List Entry) (asker n : ℕ) (noopener : Bool) → Belongs (tree_of log) asker (value.Window n) → MakesIn log asker (record { entries = es; outcome = made_or_null noopener n })
makes_existing log es asker n true b nav all is = absurd cc
makes_existing log es asker n false b nav all is =
    let same : n ≡ nav = cc in
    subst (λ (m : ℕ). Belongs (tree_of (es ++ log)) asker (value.Window m)) same (belongs_grown es log asker (value.Window n) all b)

chosen_makes : (rules : Rules) (log : List Entry) (fragment : ℕ → List ℕ → Bool) (r asker : ℕ) (url : Option (List ℕ)) (name : List ℕ) (noopener user : Bool) → IsWell (tree_of log) → asker < (tree_of log).docs
    → (c : Choice) → ChoosesIn (tree_of log) asker c → MakesIn log asker (open_chosen (asking rules (tree_of log) r asker noopener user) fragment url name c)
chosen_makes rules log fragment r asker url name noopener user well there Nothing h = makes_none log r asker what.Sync reply.Null (λ nav is. cc)
chosen_makes rules log fragment r asker url name noopener user well there New h = makes_window rules log r asker name noopener url well there
chosen_makes rules log fragment r asker None name noopener user well there (Existing n) h =
    makes_existing log (or_sync r asker (opener_entry (tree_of log) r asker noopener n)) asker n noopener (there, (h n refl).0, (h n refl).1)
chosen_makes rules log fragment r asker (Some url) name noopener user well there (Existing n) h =
    let t : Tree = tree_of log in
    let es : List Entry = opener_entry t r asker noopener n ++ by r asker (navigation rules t (fragment n url) asker n url) ∷ [] in
    makes_if log asker (may_navigate t (nav_of t asker) n user) (record { entries = es; outcome = made_or_null noopener n }) (one r asker what.Sync (reply.Security 7))
    (makes_existing log es asker n noopener (there, (h n refl).0, (h n refl).1)) (makes_none log r asker what.Sync (reply.Security 7) (λ nav is. cc))

decide_makes : (rules : Rules) (log : List Entry) (fragment : ℕ → List ℕ → Bool) (r : ℕ) (q : Request) → IsClosed (tree_of log) → asker_of q < (tree_of log).docs → MakesIn log (asker_of q) (decide rules (tree_of log) fragment r q)
unfolding decide
decide_makes rules log fragment r (ask.Frame asker name flags url) closed there = makes_frame rules log r asker name (union flags (flags_in (tree_of log) (nav_of (tree_of log) asker))) url closed.well there
decide_makes rules log fragment r (ask.Open asker url name noopener user) closed there =
    let t : Tree = tree_of log in
    chosen_makes rules log fragment r asker url name noopener user closed.well there (choice t (nav_of t asker) name noopener user) (asker_chooses t closed asker name noopener user there)
decide_makes rules log fragment r (ask.Go asker doc url user) closed there =
    let t : Tree = tree_of log in
    none_twice log r asker (is_live t asker doc) (may_navigate t (nav_of t asker) (nav_of t doc) user) what.Sync (navigation rules t (fragment (nav_of t doc) url) asker (nav_of t doc) url) 7
decide_makes rules log fragment r (ask.Name asker doc name) closed there =
    let t : Tree = tree_of log in
    none_twice log r asker (is_live t asker doc) (same_domain t asker doc) what.Sync (what.Name (nav_of t doc) name) 8
decide_makes rules log fragment r (ask.Disown asker doc) closed there =
    let t : Tree = tree_of log in
    none_twice log r asker (is_live t asker doc) (same_domain t asker doc) what.Sync (what.Opener (nav_of t doc) None) 8
decide_makes rules log fragment r (ask.Domain asker value) closed there =
    domain_cases (MakesIn log asker) rules (tree_of log) r asker (map to_ascii_lowercase value) (λ n nav all is. absurd cc) (λ effective e f nav all is. absurd cc)
decide_makes rules log fragment r q closed there = λ nav all is. absurd cc

-- EXCHANGES

AllMakesIn : List Entry → ℕ → Decision → Type 0
AllMakesIn log asker d = MakesIn log asker d

task_makes : (log : List Entry) (asker r place : ℕ) (o : Option What) → MakesIn log asker (task_decision r place o)
task_makes log asker r place None nav all is = absurd cc
task_makes log asker r place (Some w) nav all is = absurd cc

next_makes : (rules : Rules) (log : List Entry) (r asker : ℕ) → MakesIn log asker (exchange rules log r ask.Next)
unfolding exchange
next_makes rules log r asker = task_makes log asker r (length log) (next_task log r)

request_makes : (rules : Rules) (log : List Entry) (r : ℕ) (q : Request) → has_no_asker q ≡ false → IsClosed (tree_of log) → AllMakesIn log (asker_of q) (exchange rules log r q)
unfolding AllMakesIn
request_makes rules log r q other closed =
    decided_or_none (AllMakesIn log (asker_of q)) rules log r q other (λ nav all is. absurd cc) (λ nav all is. absurd cc)
    (λ been home active. decide_makes rules log _ r q closed (closed.well.shown (asker_of q) been))

-- a window that an exchange gives belongs to the asker
pub made_belongs : (rules : Rules) (log : List Entry) (r : ℕ) (q : Request) (nav : ℕ) → AreAdmitted log → length log < 2 ^ 30 → IsClosed (tree_of log) → (exchange rules log r q).outcome ≡ reply.Made nav
    → Belongs (tree_of ((exchange rules log r q).entries ++ log)) (asker_of q) (value.Window nav)
unfolding AllMakesIn
made_belongs rules log r q nav all short closed is = by_kind (has_no_asker q) refl nav (exchange_admitted rules log r q all short) is
  where
    by_kind : (b : Bool) → has_no_asker q ≡ b → MakesIn log (asker_of q) (exchange rules log r q)
    by_kind true e = without_asker (MakesIn log (asker_of q)) rules log r q e (next_makes rules log r (asker_of q)) (λ nav all is. absurd cc)
    by_kind false e = request_makes rules log r q e closed
