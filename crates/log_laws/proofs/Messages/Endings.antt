-- The entries that end messages: each is the next task of its renderer on the log before it.
use Rattle.std.proofs.Common.{◌≡◌, ℕ, List, [], ◌∷◌, ◌++◌, length, Option, Some, None, Bool, true, false, refl, sym, subst, ◌∙◌, inl, inr}
use Rattle.std.specs.Prelude.{◌⊎◌, ◌==◌, ◌||◌, ◌&&◌, map, if◌then◌else◌}
use Rattle.std.specs.Char.{to_ascii_lowercase}
use Rattle.std.proofs.lemmas.Bool.{false≢true}
use Rattle.tree_log.specs.declared.entry.Entry.{Entry}
use Rattle.tree_log.specs.declared.entry.What.{What}
use Rattle.tree_log.specs.declared.entry.What.TheVariants as what
use Rattle.tree_log.specs.Tree.{Tree, tree_of, nav_of, origin_of, children_of, same_domain}
use Rattle.agent_terms.specs.declared.request.Request.{Request}
use Rattle.agent_terms.specs.declared.request.Request.TheVariants as ask
use Rattle.agent_terms.specs.declared.request.ReplyOutcome.{ReplyOutcome}
use Rattle.agent_terms.specs.declared.request.ReplyOutcome.TheVariants as reply
use Rattle.agent_terms.specs.declared.session.Session.{Session}
use Rattle.single_agent.specs.Session.{starts_of, started, start_entry}
use Rattle.coordinator_rules.specs.NextTask.{next_task}
use Rattle.single_agent.specs.LegalLog.{IsLegalLog, Started, Exchanged, Gave_up, lost_entry}
use Rattle.coordinator_rules.specs.Navigation.{is_in, may_navigate, may_close, Choice, Existing, New, Nothing, choice}
use Rattle.coordinator_rules.specs.Decision.{asking, Rules, rules_of, Decision, decide, exchange, asker_of, by, one, navigation, new_window, made_or_null, opener_entry, or_sync, open_chosen, link_chosen, is_live, is_near, task_decision}
use Rattle.agent_laws.specs.Actors.{has_no_asker}
use Rattle.agent_laws.proofs.Logs.Exchanges.{without_asker, decided_or_none, domain_cases}

-- whether an entry ends a message
unfoldable pub is_ending : What → Bool
is_ending (what.Fire _ _) = true
is_ending (what.Lapse _ _ _) = true
is_ending w = false

-- WHAT IS DECIDED

-- what a document may have asked for: no end of a message; and a message of its own navigable, to a document of its group
unfoldable pub IsAsked : Tree → ℕ → What → Type 0
IsAsked t asker (what.Fire _ _) = ⊥
IsAsked t asker (what.Lapse _ _ _) = ⊥
IsAsked t asker (what.Post to from _ _ _) = (from ≡ nav_of t asker) × (is_near t asker to ≡ true)
IsAsked t asker w = Unit {0}

abbrev pub AreAsked : List Entry → ℕ → List Entry → Type 0
AreAsked log asker [] = Unit {0}
AreAsked log asker (e ∷ es) = IsAsked (tree_of (es ++ log)) asker e.what × AreAsked log asker es

Asked : List Entry → ℕ → Decision → Type 0
Asked log asker d = AreAsked log asker d.entries

asked_if : (t : Tree) (asker : ℕ) (b : Bool) (v w : What) → (b ≡ true → IsAsked t asker v) → IsAsked t asker w → IsAsked t asker (if b then v else w)
asked_if t asker true v w h k = h refl
asked_if t asker false v w h k = k

navigation_asked : (rules : Rules) (t s : Tree) (fragment : Bool) (asker a n : ℕ) (url : List ℕ) → IsAsked s a (navigation rules t fragment asker n url)
unfolding IsAsked
navigation_asked rules t s true asker a n url = tt
navigation_asked rules t s false asker a n url = tt

window_asked : (rules : Rules) (t s : Tree) (asker a : ℕ) (name : List ℕ) (noopener : Bool) (url : Option (List ℕ)) → IsAsked s a (new_window rules t asker name noopener url)
unfolding IsAsked
window_asked rules t s asker a name noopener url = tt

one_asked : (log : List Entry) (r asker : ℕ) (w : What) (o : ReplyOutcome) → IsAsked (tree_of log) asker w → Asked log asker (one r asker w o)
unfolding Asked
one_asked log r asker w o h = (h, tt)

sync_asked : (log : List Entry) (r asker : ℕ) (o : ReplyOutcome) → Asked log asker (one r asker what.Sync o)
unfolding Asked IsAsked
sync_asked log r asker o = (tt, tt)

front_asked : (log : List Entry) (r asker to n : ℕ) (b : Bool) (w : What) → IsAsked (tree_of log) asker w → AreAsked log asker ((if b then [] else by r asker (what.Opener n (Some to)) ∷ []) ++ by r asker w ∷ [])
unfolding IsAsked
front_asked log r asker to n true w h = (h, tt)
front_asked log r asker to n false w h = (tt, (h, tt))

or_sync_asked : (log : List Entry) (r asker to n : ℕ) (b : Bool) → AreAsked log asker (or_sync r asker (if b then [] else by r asker (what.Opener n (Some to)) ∷ []))
unfolding IsAsked
or_sync_asked log r asker to n true = (tt, tt)
or_sync_asked log r asker to n false = (tt, tt)

twice_asked : (log : List Entry) (r asker : ℕ) (a b : Bool) (w : What) (o p q : ReplyOutcome) → IsAsked (tree_of log) asker w
    → Asked log asker (if a then if b then one r asker w o else one r asker what.Sync p else one r asker what.Sync q)
twice_asked log r asker true true w o p q h = one_asked log r asker w o h
twice_asked log r asker true false w o p q h = sync_asked log r asker p
twice_asked log r asker false b w o p q h = sync_asked log r asker q

decision_if : (log : List Entry) (asker : ℕ) (b : Bool) (c d : Decision) → Asked log asker c → Asked log asker d → Asked log asker (if b then c else d)
decision_if log asker true c d h k = h
decision_if log asker false c d h k = k

opened_asked : (rules : Rules) (log : List Entry) (fragment : ℕ → List ℕ → Bool) (r asker : ℕ) (url : Option (List ℕ)) (name : List ℕ) (noopener user : Bool) (c : Choice)
    → Asked log asker (open_chosen (asking rules (tree_of log) r asker noopener user) fragment url name c)
unfolding Asked
opened_asked rules log fragment r asker url name noopener user Nothing = sync_asked log r asker reply.Null
opened_asked rules log fragment r asker url name noopener user New = (window_asked rules (tree_of log) (tree_of log) asker asker name noopener url, tt)
opened_asked rules log fragment r asker None name noopener user (Existing n) = or_sync_asked log r asker (nav_of (tree_of log) asker) n (noopener || n == nav_of (tree_of log) asker)
opened_asked rules log fragment r asker (Some url) name noopener user (Existing n) =
    let t : Tree = tree_of log in
    decision_if log asker (may_navigate t (nav_of t asker) n user)
    (record { entries = opener_entry t r asker noopener n ++ by r asker (navigation rules t (fragment n url) asker n url) ∷ []; outcome = made_or_null noopener n }) (one r asker what.Sync (reply.Security 7))
    (front_asked log r asker (nav_of t asker) n (noopener || n == nav_of t asker) (navigation rules t (fragment n url) asker n url) (navigation_asked rules t t (fragment n url) asker asker n url)) (sync_asked log r asker (reply.Security 7))

link_asked : (rules : Rules) (t : Tree) (r : ℕ) (fragment : ℕ → List ℕ → Bool) (asker : ℕ) (url name : List ℕ) (noopener user : Bool) (c : Choice) → IsAsked t asker (link_chosen (asking rules t r asker noopener user) fragment url name c)
unfolding IsAsked
link_asked rules t r fragment asker url name noopener user Nothing = tt
link_asked rules t r fragment asker url name noopener user New = window_asked rules t t asker asker name noopener (Some url)
link_asked rules t r fragment asker url name noopener user (Existing n) =
    asked_if t asker (may_navigate t (nav_of t asker) n user) (navigation rules t (fragment n url) asker n url) what.Sync (λ may. navigation_asked rules t t (fragment n url) asker asker n url) tt

decide_asked : (rules : Rules) (log : List Entry) (fragment : ℕ → List ℕ → Bool) (r : ℕ) (q : Request) → Asked log (asker_of q) (decide rules (tree_of log) fragment r q)
unfolding decide Asked IsAsked
decide_asked rules log fragment r ask.Next = tt
decide_asked rules log fragment r (ask.Sync asker) = (tt, tt)
decide_asked rules log fragment r (ask.Frame asker name flags url) = (tt, tt)
decide_asked rules log fragment r (ask.Drop asker nav) = let t : Tree = tree_of log in (asked_if t asker (is_in nav (children_of t asker)) (what.Drop nav) what.Sync (λ child. tt) tt, tt)
decide_asked rules log fragment r (ask.Open asker url name noopener user) = opened_asked rules log fragment r asker url name noopener user (choice (tree_of log) (nav_of (tree_of log) asker) name noopener user)
decide_asked rules log fragment r (ask.Link asker url name noopener user) =
    (link_asked rules (tree_of log) r fragment asker url name noopener user (choice (tree_of log) (nav_of (tree_of log) asker) name noopener user), tt)
decide_asked rules log fragment r (ask.Go asker doc url user) =
    let t : Tree = tree_of log in
    twice_asked log r asker (is_live t asker doc) (may_navigate t (nav_of t asker) (nav_of t doc) user) (navigation rules t (fragment (nav_of t doc) url) asker (nav_of t doc) url) reply.Done (reply.Security 7) reply.Done
    (navigation_asked rules t t (fragment (nav_of t doc) url) asker asker (nav_of t doc) url)
decide_asked rules log fragment r (ask.Name asker doc name) =
    let t : Tree = tree_of log in
    twice_asked log r asker (is_live t asker doc) (same_domain t asker doc) (what.Name (nav_of t doc) name) reply.Done (reply.Security 8) reply.Done tt
decide_asked rules log fragment r (ask.Disown asker doc) =
    let t : Tree = tree_of log in
    twice_asked log r asker (is_live t asker doc) (same_domain t asker doc) (what.Opener (nav_of t doc) None) reply.Done (reply.Security 8) reply.Done tt
decide_asked rules log fragment r (ask.Close asker doc user) =
    let t : Tree = tree_of log in
    (asked_if t asker (is_live t asker doc && may_close t (nav_of t asker) (nav_of t doc) user) (what.Closing (nav_of t doc)) what.Sync (λ may. tt) tt, tt)
decide_asked rules log fragment r (ask.Post asker doc target body) =
    let t : Tree = tree_of log in
    (asked_if t asker (is_near t asker doc) (what.Post doc (nav_of t asker) (origin_of t asker) target body) what.Sync (λ near. (refl, near)) tt, tt)
decide_asked rules log fragment r (ask.Domain asker value) = domain_cases (Asked log asker) rules (tree_of log) r asker (map to_ascii_lowercase value) (λ n. (tt, tt)) (λ effective e f. (tt, tt))
decide_asked rules log fragment r ask.More = tt

-- the entries of an exchange for anything but the next task, of a document that has been active
BeenAsked : List Entry → ℕ → Decision → Type 0
BeenAsked log asker d = (d.entries ≡ []) ⊎ ((((tree_of log).doc asker).been_active ≡ true) × AreAsked log asker d.entries)

pub exchange_asked : (rules : Rules) (log : List Entry) (r : ℕ) (q : Request) → has_no_asker q ≡ false
    → ((exchange rules log r q).entries ≡ []) ⊎ ((((tree_of log).doc (asker_of q)).been_active ≡ true) × AreAsked log (asker_of q) (exchange rules log r q).entries)
unfolding BeenAsked Asked
exchange_asked rules log r q other =
    decided_or_none (BeenAsked log (asker_of q)) rules log r q other (inl refl) (inl refl) (λ been home active. inr (been, decide_asked rules log _ r q))

-- TASKS

-- an entry that ends a message is its renderer's next task on the log before it
unfoldable pub IsTaken : List Entry → Entry → Type 0
IsTaken older e = is_ending e.what ≡ true → (r : ℕ) × (e.by ≡ Some r) × (next_task older r ≡ Some e.what)

abbrev pub AreTaken : List Entry → Type 0
AreTaken [] = Unit {0}
AreTaken (e ∷ older) = IsTaken older e × AreTaken older

no_ending : (older : List Entry) (e : Entry) → is_ending e.what ≡ false → IsTaken older e
unfolding IsTaken
no_ending older e none h = absurd (false≢true (sym none ∙ h))

asked_no_ending : (t : Tree) (asker : ℕ) (w : What) → IsAsked t asker w → is_ending w ≡ false
unfolding IsAsked is_ending
asked_no_ending t asker (what.Fire _ _) h = absurd h
asked_no_ending t asker (what.Lapse _ _ _) h = absurd h
asked_no_ending t asker w h = refl

asked_taken : (log : List Entry) (asker : ℕ) (es : List Entry) → AreAsked log asker es → AreTaken log → AreTaken (es ++ log)
asked_taken log asker [] h taken = taken
asked_taken log asker (e ∷ es) h taken = (no_ending (es ++ log) e (asked_no_ending (tree_of (es ++ log)) asker e.what h.0), asked_taken log asker es h.1 taken)

task_taken : (log : List Entry) (r place : ℕ) (o : Option What) → next_task log r ≡ o → AreTaken log → AreTaken ((task_decision r place o).entries ++ log)
unfolding IsTaken
task_taken log r place None is taken = taken
task_taken log r place (Some w) is taken = ((λ ends. (r, refl, is)), taken)

next_taken : (rules : Rules) (log : List Entry) (r : ℕ) → AreTaken log → AreTaken ((exchange rules log r ask.Next).entries ++ log)
unfolding exchange
next_taken rules log r taken = task_taken log r (length log) (next_task log r) refl taken

exchange_taken : (rules : Rules) (log : List Entry) (r : ℕ) (q : Request) → AreTaken log → AreTaken ((exchange rules log r q).entries ++ log)
exchange_taken rules log r q taken = by_kind (has_no_asker q) refl
  where
    by_kind : (b : Bool) → has_no_asker q ≡ b → AreTaken ((exchange rules log r q).entries ++ log)
    by_kind true is = without_asker (λ (d : Decision). AreTaken (d.entries ++ log)) rules log r q is (next_taken rules log r taken) taken
    by_kind false is = elim (exchange_asked rules log r q is) as (λ _. AreTaken ((exchange rules log r q).entries ++ log)) [
      | inl none ↦ subst (λ (es : List Entry). AreTaken (es ++ log)) (sym none) taken
      | inr asked ↦ asked_taken log (asker_of q) (exchange rules log r q).entries asked.1 taken
    ]

started_taken : (rules : Rules) (log : List Entry) (urls : List (List ℕ)) → AreTaken log → AreTaken (started rules log urls)
unfolding is_ending
started_taken rules log [] taken = taken
started_taken rules log (url ∷ urls) taken = started_taken rules (start_entry rules (tree_of log) url ∷ log) urls (no_ending log (start_entry rules (tree_of log) url) refl, taken)

starts_taken : (s : Session) → AreTaken (starts_of s)
unfolding starts_of
starts_taken s = started_taken (rules_of s) [] s.start tt

-- in a legal log every end of a message was taken so
pub legal_taken : (s : Session) (log : List Entry) → IsLegalLog s log → AreTaken log
unfolding is_ending
legal_taken s log Started = starts_taken s
legal_taken s log (Exchanged older r q legal there) = exchange_taken (rules_of s) older r q (legal_taken s older legal)
legal_taken s log (Gave_up older r legal there) = (no_ending older (lost_entry r) refl, legal_taken s older legal)
