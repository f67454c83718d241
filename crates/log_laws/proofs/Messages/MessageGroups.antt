-- A message stays in its group.
use Rattle.std.proofs.Common.{◌≡◌, ℕ, ◌<◌, ◌≤◌, ◌^◌, List, [], ◌∷◌, ◌++◌, length, Option, Some, None, Bool, true, false, refl, ap, sym, subst, ◌∙◌, if◌then◌else◌, arith, inl, inr}
use Rattle.std.specs.Prelude.{nat_lt, nat_le, codes}
use Rattle.std.specs.Option.{option_map_or}
use Rattle.std.proofs.lemmas.Bool.{false≢true, cases_lt}
use Rattle.window_props.specs.declared.value.Value.{Value}
use Rattle.window_props.specs.declared.value.Value.TheVariants as value
use Rattle.origin_core.specs.declared.origin.Origin.{Origin}
use Rattle.origin_core.specs.Origin.{origin_text}
use Rattle.plain_data.specs.declared.data.Data.{Data}
use Rattle.tree_log.specs.declared.entry.Entry.{Entry}
use Rattle.tree_log.specs.declared.entry.Target.{Target}
use Rattle.tree_log.specs.declared.entry.What.{What}
use Rattle.tree_log.specs.declared.entry.What.TheVariants as what
use Rattle.tree_log.specs.Log.{entry_at, prefix}
use Rattle.tree_log.specs.Tree.{Tree, tree_of, tree_after, tree_of_step, nav_of, same_group}
use Rattle.tree_log.specs.Admits.{admits, AreAdmitted}
use Rattle.tree_log.proofs.Admitted.{both, lt_of, what_admitted}
use Rattle.tree_log.proofs.Places.{prefix_whole, prefix_length, entry_below}
use Rattle.agent_terms.specs.declared.request.Request.{Request}
use Rattle.agent_terms.specs.declared.request.Request.TheVariants as ask
use Rattle.agent_terms.specs.declared.session.Session.{Session}
use Rattle.single_agent.specs.Session.{starts_of, started, start_entry}
use Rattle.coordinator_rules.specs.NextTask.{next_task, task_entry}
use Rattle.object_access.specs.Registers.{written, message_written, task_written}
use Rattle.object_access.specs.Values.{text}
use Rattle.single_agent.specs.LegalLog.{IsLegalLog, Started, Exchanged, Gave_up}
use Rattle.coordinator_rules.specs.Decision.{Rules, rules_of, Decision, exchange, asker_of, task_decision}
use Rattle.agent_laws.specs.Actors.{has_no_asker}
use Rattle.agent_laws.specs.Belonging.{Belongs, RegistersBelong}
use Rattle.log_laws.specs.Messages.{IsAtItsOwn}
use Rattle.agent_laws.proofs.Groups.Written.{written_belongs}
use Rattle.agent_laws.proofs.Logs.Exchanges.{without_asker}
use Rattle.agent_laws.specs.Wellness.{IsWell}
use Rattle.agent_laws.proofs.Groups.Well.{more_docs, admitted_well}
use Rattle.agent_laws.proofs.Groups.Grouped.{belongs_after, same_back}
use Rattle.log_laws.proofs.Messages.Endings.{IsAsked, AreAsked, exchange_asked}
use Rattle.log_laws.proofs.Messages.Inactive.{older_admitted}
use Rattle.log_laws.proofs.Messages.FirstTasks.{entry_cases, none_stands}
use Rattle.log_laws.proofs.Messages.MessageEnds.{entry_before, fires_rightly}
use Rattle.agent_laws.proofs.Logs.Admitted.{legal_admitted}

-- WHERE MESSAGES COME FROM

-- a message came from a window of the group of the document that it is to
unfoldable IsPostNear : Tree → What → Type 0
IsPostNear t (what.Post to from _ _ _) = Belongs t to (value.Window from)
IsPostNear t w = Unit {0}

-- each message of an admitted log did so on the log before it
ArePostsNear : List Entry → Type 0
ArePostsNear [] = Unit {0}
ArePostsNear (e ∷ older) = (AreAdmitted (e ∷ older) → IsPostNear (tree_of older) e.what) × ArePostsNear older

pub more_docs_there : (es log : List Entry) → (tree_of log).docs ≤ (tree_of (es ++ log)).docs
more_docs_there [] log = omega arith
more_docs_there (e ∷ es) log =
    let one : (tree_of (es ++ log)).docs ≤ (tree_of (e ∷ es ++ log)).docs = subst (λ (t : Tree). (tree_of (es ++ log)).docs ≤ t.docs) (sym (tree_of_step e (es ++ log))) (more_docs (tree_of (es ++ log)) e) in
    omega (arith, more_docs_there es log)

asked_near : (t : Tree) (asker : ℕ) (w : What) → IsWell t → asker < t.docs → IsAsked t asker w → IsPostNear t w
unfolding IsAsked IsPostNear
asked_near t asker (what.Post to from origin target body) well there h =
    let near = both (nat_lt to t.docs) (same_group t (nav_of t asker) (nav_of t to)) h.1 in
    let is : from ≡ nav_of t asker = h.0 in
    (lt_of to t.docs near.0, subst (λ (n : ℕ). n < t.navs) (sym is) (well.below asker there), subst (λ (n : ℕ). same_group t (nav_of t to) n ≡ true) (sym is) (same_back t (nav_of t asker) (nav_of t to) near.1))
asked_near t asker w well there h = tt

all_asked_near : (log : List Entry) (asker : ℕ) (es : List Entry) → ((tree_of log).doc asker).been_active ≡ true → AreAsked log asker es → ArePostsNear log → ArePostsNear (es ++ log)
unfolding ArePostsNear
all_asked_near log asker [] been h near = near
all_asked_near log asker (e ∷ es) been h near = (
  λ all.
      let there : asker < (tree_of log).docs = (admitted_well log (older_admitted es log all.1)).shown asker been in
      asked_near (tree_of (es ++ log)) asker e.what (admitted_well (es ++ log) all.1) (omega (arith, more_docs_there es log)) h.0,
  all_asked_near log asker es been h.1 near,
)

-- a task posts nothing
task_near : (t : Tree) (r : ℕ) (w : What) → admits t (task_entry r w) ≡ true → IsPostNear t w
unfolding IsPostNear
task_near t r (what.Post to from origin target body) h = absurd (false≢true (what_admitted t (task_entry r (what.Post to from origin target body)) h))
task_near t r w h = tt

decision_near : (log : List Entry) (r place : ℕ) (o : Option What) → ArePostsNear log → ArePostsNear ((task_decision r place o).entries ++ log)
unfolding ArePostsNear
decision_near log r place None near = near
decision_near log r place (Some w) near = ((λ all. task_near (tree_of log) r w all.0), near)

next_near : (rules : Rules) (log : List Entry) (r : ℕ) → ArePostsNear log → ArePostsNear ((exchange rules log r ask.Next).entries ++ log)
unfolding exchange
next_near rules log r near = decision_near log r (length log) (next_task log r) near

exchange_near : (rules : Rules) (log : List Entry) (r : ℕ) (q : Request) → ArePostsNear log → ArePostsNear ((exchange rules log r q).entries ++ log)
exchange_near rules log r q near = by_kind (has_no_asker q) refl
  where
    by_kind : (b : Bool) → has_no_asker q ≡ b → ArePostsNear ((exchange rules log r q).entries ++ log)
    by_kind true is = without_asker (λ (d : Decision). ArePostsNear (d.entries ++ log)) rules log r q is (next_near rules log r near) near
    by_kind false is = elim (exchange_asked rules log r q is) as (λ _. ArePostsNear ((exchange rules log r q).entries ++ log)) [
      | inl none ↦ subst (λ (es : List Entry). ArePostsNear (es ++ log)) (sym none) near
      | inr asked ↦ all_asked_near log (asker_of q) (exchange rules log r q).entries asked.0 asked.1 near
    ]

started_near : (rules : Rules) (log : List Entry) (urls : List (List ℕ)) → ArePostsNear log → ArePostsNear (started rules log urls)
unfolding ArePostsNear IsPostNear
started_near rules log [] near = near
started_near rules log (url ∷ urls) near = started_near rules (start_entry rules (tree_of log) url ∷ log) urls ((λ all. tt), near)

starts_near : (s : Session) → ArePostsNear (starts_of s)
unfolding starts_of ArePostsNear
starts_near s = started_near (rules_of s) [] s.start tt

legal_near : (s : Session) (log : List Entry) → IsLegalLog s log → ArePostsNear log
unfolding ArePostsNear IsPostNear
legal_near s log Started = starts_near s
legal_near s log (Exchanged older r q legal there) = exchange_near (rules_of s) older r q (legal_near s older legal)
legal_near s log (Gave_up older r legal there) = ((λ all. tt), legal_near s older legal)

-- ON LONGER LOGS

post_later : (t : Tree) (e : Entry) (w : What) → admits t e ≡ true → IsWell t → IsPostNear t w → IsPostNear (tree_after t e) w
unfolding IsPostNear
post_later t e (what.Post to from _ _ _) h well near = belongs_after t e to (value.Window from) h well near
post_later t e w h well near = tt

post_at_step : (e : Entry) (older : List Entry) (w : What) → AreAdmitted (e ∷ older) → IsPostNear (tree_of older) w → IsPostNear (tree_of (e ∷ older)) w
post_at_step e older w all near = subst (λ (t : Tree). IsPostNear t w) (sym (tree_of_step e older)) (post_later (tree_of older) e w all.0 (admitted_well older all.1) near)

near_at : (log : List Entry) → ArePostsNear log → AreAdmitted log → (p : ℕ) (e : Entry) → entry_at log p ≡ Some e → IsPostNear (tree_of log) e.what
unfolding ArePostsNear
near_at [] near all p e at = absurd (none_stands p e at)
near_at (x ∷ older) near all p e at = elim (entry_cases x older p e at) as (λ _. IsPostNear (tree_of (x ∷ older)) e.what) [
  | inl here ↦ subst (λ (y : Entry). IsPostNear (tree_of (x ∷ older)) y.what) here.1 (post_at_step x older x.what all (near.0 all))
  | inr there ↦ post_at_step x older e.what all (near_at older near.1 all.1 p e there.1)
]

near_before : (k : ℕ) (log : List Entry) → ArePostsNear log → ArePostsNear (prefix k log)
unfolding prefix ArePostsNear
near_before k [] near = tt
near_before k (e ∷ older) near = by_length (nat_le k (length older)) (near_before k older near.1)
  where
    by_length : (b : Bool) → ArePostsNear (prefix k older) → ArePostsNear (if b then prefix k older else e ∷ older)
    by_length true before = before
    by_length false before = near

pub admitted_before : (k : ℕ) (log : List Entry) → AreAdmitted log → AreAdmitted (prefix k log)
unfolding prefix
admitted_before k [] all = tt
admitted_before k (e ∷ older) all = by_length (nat_le k (length older)) (admitted_before k older all.1)
  where
    by_length : (b : Bool) → AreAdmitted (prefix k older) → AreAdmitted (if b then prefix k older else e ∷ older)
    by_length true before = before
    by_length false before = all

pub posts_belong : (s : Session) (log : List Entry) (place : ℕ) (e : Entry) (to from : ℕ) (origin : Origin) (target : Target) (body : Data) → IsLegalLog s log → length log < 2 ^ 30
    → entry_at log place ≡ Some e → e.what ≡ what.Post to from origin target body → Belongs (tree_of log) to (value.Window from)
unfolding IsPostNear
posts_belong s log place e to from origin target body legal short at is =
    subst (IsPostNear (tree_of log)) is (near_at log (legal_near s log legal) (legal_admitted s log legal short) place e at)

-- WHAT A MESSAGE WRITES

message_belongs : (t : Tree) (d from : ℕ) (origin : Origin) (target : Target) (body : Data) (registers : ℕ → List ℕ → Value) → Belongs t d (value.Window from) → RegistersBelong t registers
    → RegistersBelong t (message_written d (what.Post d from origin target body) registers)
message_belongs t d from origin target body registers b held =
    let source = written_belongs t d (codes "source") (value.Window from) registers b held in
    let with_origin = written_belongs t d (codes "origin") (text (origin_text origin)) (written d (codes "source") (value.Window from) registers) tt source in
    written_belongs t d (codes "data") (value.Plain body) (written d (codes "origin") (text (origin_text origin)) (written d (codes "source") (value.Window from) registers)) tt with_origin

own_belongs : (log : List Entry) (w : What) (registers : ℕ → List ℕ → Value) → ArePostsNear log → AreAdmitted log → IsAtItsOwn log w → RegistersBelong (tree_of log) registers → RegistersBelong (tree_of log) (task_written log w registers)
unfolding IsPostNear
own_belongs log (what.Fire doc post) registers near all own held =
    let m = own.1 in
    let b : Belongs (tree_of log) doc (value.Window m.from) = subst (IsPostNear (tree_of log)) m.posted (near_at log near all post m.entry m.stands) in
    subst (λ (o : Option Entry). RegistersBelong (tree_of log) (option_map_or (λ (e : Entry). message_written doc e.what registers) o registers)) (sym m.stands)
    (subst (λ (w : What). RegistersBelong (tree_of log) (message_written doc w registers)) (sym m.posted) (message_belongs (tree_of log) doc m.from m.origin own.0 m.body registers b held))
own_belongs log w registers near all own held = held

pub registers_own : (s : Session) (log : List Entry) (w : What) (registers : ℕ → List ℕ → Value) → IsLegalLog s log → length log < 2 ^ 30 → IsAtItsOwn log w → RegistersBelong (tree_of log) registers
    → RegistersBelong (tree_of log) (task_written log w registers)
registers_own s log w registers legal short own held = own_belongs log w registers (legal_near s log legal) (legal_admitted s log legal short) own held

-- AS THE LOG STOOD

place_before : (log : List Entry) (k q : ℕ) (e : Entry) → entry_at (prefix k log) q ≡ Some e → q < k
place_before log k q e at =
    let below = entry_below (prefix k log) q e at in
    elim (cases_lt k (length log)) as (λ _. q < k) [
      | inl lt ↦ omega (arith, prefix_length log k (omega arith))
      | inr le ↦ let whole : length (prefix k log) ≡ length log = ap length (prefix_whole log k le) in omega arith
    ]

own_at : (s : Session) (log : List Entry) (k q : ℕ) (e : Entry) → IsLegalLog s log → entry_at (prefix k log) q ≡ Some e → (w : What) → e.what ≡ w → IsAtItsOwn (prefix k log) w
own_at s log k q e legal at (what.Fire doc post) is =
    let lt = place_before log k q e at in
    let fired = fires_rightly s log q doc post e legal (sym (entry_before log k q lt) ∙ at) is in
    let earlier : post < q = fired.earlier in
    let m = fired.message in
    (fired.target, record { entry = m.entry; from = m.from; origin = m.origin; body = m.body; stands = entry_before log k post (omega arith) ∙ m.stands; posted = m.posted })
own_at s log k q e legal at w is = tt

pub registers_taken : (s : Session) (log : List Entry) (k q : ℕ) (e : Entry) (registers : ℕ → List ℕ → Value) → IsLegalLog s log → length log < 2 ^ 30 → entry_at (prefix k log) q ≡ Some e
    → RegistersBelong (tree_of (prefix k log)) registers → RegistersBelong (tree_of (prefix k log)) (task_written (prefix k log) e.what registers)
registers_taken s log k q e registers legal short at held =
    own_belongs (prefix k log) e.what registers (near_before k log (legal_near s log legal)) (admitted_before k log (legal_admitted s log legal short)) (own_at s log k q e legal at e.what refl) held
