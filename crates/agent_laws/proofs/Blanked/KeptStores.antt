-- A step by the properties of the objects of kept documents.
use Rattle.std.proofs.Common.{◌≡◌, ℕ, List, [], ◌++◌, map, Option, Some, None, Bool, true, false, refl, ap, ◌∙◌, sym, subst, if◌then◌else◌, inl, inr}
use Rattle.std.specs.Prelude.{◌⊎◌, ◌==◌, ◌&&◌, ◌||◌, unwrap_or}
use Rattle.std.specs.Option.{option_map, option_map_or}
use Rattle.std.proofs.lemmas.Bool.{false≢true, eqb-true, eq-eqb}
use Rattle.origin_core.specs.Flags.{flags_of}
use Rattle.window_props.specs.declared.key.Key.{Key}
use Rattle.window_props.specs.declared.value.Value.{Value}
use Rattle.window_props.specs.declared.value.Value.TheVariants as value
use Rattle.window_props.specs.declared.platform.Object.{Object}
use Rattle.window_props.specs.declared.platform.Object.TheVariants as object
use Rattle.window_props.specs.declared.descriptor.Change.{Change}
use Rattle.window_props.specs.Values.{same_object}
use Rattle.window_props.specs.Ordinary.{Act, Define, Set, Delete}
use Rattle.window_props.specs.History.{Store}
use Rattle.window_props.specs.Cross.{list_keys, fallback_keys}
use Rattle.tree_log.specs.declared.entry.Entry.{Entry}
use Rattle.tree_log.specs.Tree.{Tree, tree_of, nav_of, origin_of, same_group, same_domain}
use Rattle.tree_log.specs.Urls.{url_of}
use Rattle.tree_log.specs.Admits.{AreAdmitted}
use Rattle.tree_log.specs.Blanking.{blanked, is_open_to}
use Rattle.tree_log.proofs.BlankLaws.{tree_of-blanked, url_of-blanked}
use Rattle.agent_terms.specs.declared.step.Operand.{Operand}
use Rattle.agent_terms.specs.declared.step.Operand.TheVariants as operand
use Rattle.agent_terms.specs.declared.step.Step.{Step}
use Rattle.agent_terms.specs.declared.step.Step.TheVariants as step
use Rattle.agent_terms.specs.declared.act.Performed.TheVariants.{Answer}
use Rattle.agent_terms.specs.declared.outcome.Outcome.{Outcome}
use Rattle.agent_terms.specs.declared.outcome.Outcome.TheVariants as outcome
use Rattle.agent_terms.specs.declared.outcome.Rule.TheVariants.{S5, S6}
use Rattle.object_access.specs.Access as access
use Rattle.object_access.specs.Access.{Seen, got, got_own, got_foreign, has_own, has_foreign, described_foreign, settled_own, set_foreign, truth_of, index_keys, own_property, foreign_property}
use Rattle.object_access.specs.WindowAccess.{window, window_of}
use Rattle.object_access.specs.LocationAccess.{location}
use Rattle.object_access.specs.Methods.{run_got, called}
use Rattle.single_agent.specs.Shown.{is_seen_by, document_of}
use Rattle.object_access.specs.StepAnswer.{held, operand_value, object_of, performed, on_object, change_of, if_any, frame_step, open_step, perform, step_stores}
use Rattle.agent_laws.specs.Sights.{sight_of, AgreeOn, IsKeptOrForeign, HoldsKept, HoldsGroup}
use Rattle.agent_laws.proofs.Groups.Well.{admitted_well}
use Rattle.agent_laws.proofs.Blanked.BlankedAccess.{same_everywhere}
use Rattle.agent_laws.proofs.Blanked.BlankedSteps.{sight_with, IsMet, done_with, left_by, perform_same, changed_same}

-- FOREIGN OBJECTS

-- what is done with an object that takes its properties where it is the asker's own
abbrev IsForeignDone : (Seen → Store → Outcome) → Type 0
IsForeignDone f = (seen : Seen) (props others : Store) → seen.own ≡ false → f seen props ≡ f seen others

unless_own : (b : Bool) (x y z : Outcome) → b ≡ false → (if b then x else z) ≡ (if b then y else z)
unless_own true x y z e = absurd (false≢true (sym e))
unless_own false x y z e = refl

got_foreign_done : (key : Key) → IsForeignDone (λ seen props. got seen props key)
unfolding got
got_foreign_done key seen props others far =
    unless_own seen.own (outcome.Value (got_own seen key (own_property seen props key))) (outcome.Value (got_own seen key (own_property seen others key))) (got_foreign seen key (foreign_property seen key)) far

has_foreign_done : (key : Key) → IsForeignDone (λ seen props. access.has seen props key)
unfolding access.has
has_foreign_done key seen props others far =
    unless_own seen.own (outcome.Truth (has_own seen key (own_property seen props key))) (outcome.Truth (has_own seen key (own_property seen others key))) (has_foreign (foreign_property seen key)) far

described_foreign_done : (key : Key) → IsForeignDone (λ seen props. access.described seen props key)
unfolding access.described
described_foreign_done key seen props others far =
    unless_own seen.own (outcome.Own (own_property seen props key)) (outcome.Own (own_property seen others key)) (described_foreign (foreign_property seen key)) far

keys_foreign_done : IsForeignDone (λ seen props. access.keys seen props)
unfolding access.keys
keys_foreign_done seen props others far = ap (λ (ks : List Key). outcome.Keys (index_keys seen.count ++ ks)) (keys_unless seen.own far)
  where
    keys_unless : (b : Bool) → b ≡ false → (if b then props.keys else list_keys seen.object ++ fallback_keys) ≡ (if b then others.keys else list_keys seen.object ++ fallback_keys)
    keys_unless true e = absurd (false≢true (sym e))
    keys_unless false e = refl

set_foreign_done : (key : Key) (v : Value) → IsForeignDone (λ seen props. access.set seen props key v)
unfolding access.set
set_foreign_done key v seen props others far = unless_own seen.own _ _ (set_foreign seen key v (foreign_property seen key)) far

defined_foreign_done : (key : Key) (change : Change) → IsForeignDone (λ seen props. access.defined seen props key change)
unfolding access.defined
defined_foreign_done key change seen props others far = unless_own seen.own _ _ (outcome.Security S5) far

deleted_foreign_done : (key : Key) → IsForeignDone (λ seen props. access.deleted seen props key)
unfolding access.deleted
deleted_foreign_done key seen props others far = unless_own seen.own _ _ (outcome.Security S6) far

called_foreign_done : (t : Tree) (urls : ℕ → List ℕ) (asker : ℕ) (key : Key) (args : List Value) → IsForeignDone (λ seen props. called t urls asker seen props key args)
unfolding called
called_foreign_done t urls asker key args seen props others far = ap (run_got t urls asker seen.object key args) (got_foreign_done key seen props others far)

-- OPERATIONS

abbrev AreKept : (ℕ → Bool) → Tree → (ℕ → List ℕ) → (ℕ → List ℕ → Value) → (Object → Store) → ℕ → Type 0
AreKept kept t urls registers stores d = HoldsKept kept (sight_with t urls registers stores) d

on_value : (kept : ℕ → Bool) (t : Tree) (urls : ℕ → List ℕ) (d : ℕ) (stores others : Object → Store) (f : Seen → Store → Outcome) → IsForeignDone f → AgreeOn kept stores others → (v : Value)
    → ((n : ℕ) → v ≡ value.Window n → IsKeptOrForeign kept t d (t.nav n).active) → ((e : ℕ) → v ≡ value.Location e → IsKeptOrForeign kept t d e)
    → (registers : ℕ → List ℕ → Value)
    → done_with (object_of (sight_with t urls registers stores) d v) (λ seen. f seen (stores seen.object)) ≡ done_with (object_of (sight_with t urls registers others) d v) (λ seen. f seen (others seen.object))
unfolding window_of location
on_value kept t urls d stores others f far agree (value.Window n) windows locations registers =
    elim (windows n refl) as (λ _. f (window t urls d n) (stores (object.Window (t.nav n).active)) ≡ f (window t urls d n) (others (object.Window (t.nav n).active))) [
      | inl k ↦ ap (f (window t urls d n)) (agree (object.Window (t.nav n).active) k)
      | inr x ↦ far (window t urls d n) (stores (object.Window (t.nav n).active)) (others (object.Window (t.nav n).active)) x
    ]
on_value kept t urls d stores others f far agree (value.Location e) windows locations registers =
    elim (locations e refl) as (λ _. f (location t urls d e) (stores (object.Location e)) ≡ f (location t urls d e) (others (object.Location e))) [
      | inl k ↦ ap (f (location t urls d e)) (agree (object.Location e) k)
      | inr x ↦ far (location t urls d e) (stores (object.Location e)) (others (object.Location e)) x
    ]
on_value kept t urls d stores others f far agree v windows locations registers = refl

on_kept : (kept : ℕ → Bool) (t : Tree) (urls : ℕ → List ℕ) (registers : ℕ → List ℕ → Value) (stores others : Object → Store) (d : ℕ) (user : Bool) (of : List ℕ) (f : Seen → Store → Outcome)
    → IsForeignDone f → AgreeOn kept stores others → AreKept kept t urls registers stores d
    → on_object (sight_with t urls registers stores) d user of (λ seen. f seen (stores seen.object)) ≡ on_object (sight_with t urls registers others) d user of (λ seen. f seen (others seen.object))
unfolding on_object held
on_kept kept t urls registers stores others d user of f far agree holds =
    ap (performed d user) (on_value kept t urls d stores others f far agree (held (sight_with t urls registers stores) d of) (holds.windows of) (holds.locations of) registers)

operand_kept : (t : Tree) (urls : ℕ → List ℕ) (registers : ℕ → List ℕ → Value) (stores others : Object → Store) (d : ℕ) (given : Operand)
    → operand_value (sight_with t urls registers stores) d given ≡ operand_value (sight_with t urls registers others) d given
unfolding operand_value held
operand_kept t urls registers stores others d (operand.Register name) = refl
operand_kept t urls registers stores others d (operand.Plain given) = refl

operands_kept : (t : Tree) (urls : ℕ → List ℕ) (registers : ℕ → List ℕ → Value) (stores others : Object → Store) (d : ℕ)
    → operand_value (sight_with t urls registers stores) d ≡ operand_value (sight_with t urls registers others) d
operands_kept t urls registers stores others d = same_everywhere _ _ (λ given. operand_kept t urls registers stores others d given)

framed_kept : (t : Tree) (urls : ℕ → List ℕ) (registers : ℕ → List ℕ → Value) (stores others : Object → Store) (d : ℕ) (name : List ℕ) (flags : ℕ) (text : Option (List ℕ))
    → frame_step (sight_with t urls registers stores) d name flags text ≡ frame_step (sight_with t urls registers others) d name flags text
unfolding frame_step
framed_kept t urls registers stores others d name flags None = refl
framed_kept t urls registers stores others d name flags (Some text) = refl

opened_kept : (t : Tree) (urls : ℕ → List ℕ) (registers : ℕ → List ℕ → Value) (stores others : Object → Store) (d : ℕ) (target : List ℕ) (noopener user : Bool) (text : Option (List ℕ))
    → open_step (sight_with t urls registers stores) d target noopener user text ≡ open_step (sight_with t urls registers others) d target noopener user text
unfolding open_step
opened_kept t urls registers stores others d target noopener user None = refl
opened_kept t urls registers stores others d target noopener user (Some text) = refl

-- what is done with an object that doesn't ask for its properties
object_kept : (t : Tree) (urls : ℕ → List ℕ) (registers : ℕ → List ℕ → Value) (stores others : Object → Store) (d : ℕ) (user : Bool) (of : List ℕ) (f : Seen → Outcome)
    → on_object (sight_with t urls registers stores) d user of f ≡ on_object (sight_with t urls registers others) d user of f
unfolding on_object held
object_kept t urls registers stores others d user of f = ap (performed d user) (by_value (held (sight_with t urls registers stores) d of))
  where
    by_value : (v : Value) → done_with (object_of (sight_with t urls registers stores) d v) f ≡ done_with (object_of (sight_with t urls registers others) d v) f
    by_value (value.Window n) = refl
    by_value (value.Location e) = refl
    by_value v = refl

-- A STEP

perform_kept : (kept : ℕ → Bool) (t : Tree) (urls : ℕ → List ℕ) (registers : ℕ → List ℕ → Value) (stores others : Object → Store) (d : ℕ) → AgreeOn kept stores others → AreKept kept t urls registers stores d → (s : Step)
    → perform (sight_with t urls registers stores) d s ≡ perform (sight_with t urls registers others) d s
unfolding perform
perform_kept kept t urls registers stores others d agree holds (step.Let to given) = ap (λ (v : Value). Answer (outcome.Value v)) (operand_kept t urls registers stores others d given)
perform_kept kept t urls registers stores others d agree holds (step.Get of key to) = on_kept kept t urls registers stores others d false of (λ seen props. got seen props key) (got_foreign_done key) agree holds
perform_kept kept t urls registers stores others d agree holds (step.Has of key) = on_kept kept t urls registers stores others d false of (λ seen props. access.has seen props key) (has_foreign_done key) agree holds
perform_kept kept t urls registers stores others d agree holds (step.Describe of key) =
    on_kept kept t urls registers stores others d false of (λ seen props. access.described seen props key) (described_foreign_done key) agree holds
perform_kept kept t urls registers stores others d agree holds (step.Keys of) = on_kept kept t urls registers stores others d false of (λ seen props. access.keys seen props) keys_foreign_done agree holds
perform_kept kept t urls registers stores others d agree holds (step.Proto of) = object_kept t urls registers stores others d false of access.prototype
perform_kept kept t urls registers stores others d agree holds (step.SetProto of) = object_kept t urls registers stores others d false of _
perform_kept kept t urls registers stores others d agree holds (step.Extensible of) = object_kept t urls registers stores others d false of _
perform_kept kept t urls registers stores others d agree holds (step.Prevent of) = object_kept t urls registers stores others d false of _
perform_kept kept t urls registers stores others d agree holds (step.Set of key given user) =
    let v : Value = operand_value (sight_with t urls registers stores) d given in
    on_kept kept t urls registers stores others d user of (λ seen props. access.set seen props key v) (set_foreign_done key v) agree holds
    ∙ ap (λ (w : Value). on_object (sight_with t urls registers others) d user of (λ seen. access.set seen (others seen.object) key w)) (operand_kept t urls registers stores others d given)
perform_kept kept t urls registers stores others d agree holds (step.Define of key given writable enumerable configurable) =
    let change : Change = change_of (sight_with t urls registers stores) d given writable enumerable configurable in
    on_kept kept t urls registers stores others d false of (λ seen props. access.defined seen props key change) (defined_foreign_done key change) agree holds
    ∙ ap (λ (f : Operand → Value). on_object (sight_with t urls registers others) d false of
    (λ seen. access.defined seen (others seen.object) key (record { value = option_map f given; writable = writable; enumerable = enumerable; configurable = configurable })))
    (operands_kept t urls registers stores others d)
perform_kept kept t urls registers stores others d agree holds (step.Delete of key) =
    on_kept kept t urls registers stores others d false of (λ seen props. access.deleted seen props key) (deleted_foreign_done key) agree holds
perform_kept kept t urls registers stores others d agree holds (step.Call of key args to user) =
    let given : List Value = map (operand_value (sight_with t urls registers stores) d) args in
    on_kept kept t urls registers stores others d user of (λ seen props. called t urls d seen props key given) (called_foreign_done t urls d key given) agree holds
    ∙ ap (λ (f : Operand → Value). on_object (sight_with t urls registers others) d user of (λ seen. called t urls d seen (others seen.object) key (map f args))) (operands_kept t urls registers stores others d)
perform_kept kept t urls registers stores others d agree holds (step.Frame text name sandbox to) = framed_kept t urls registers stores others d (unwrap_or name []) (option_map_or flags_of sandbox 0) (if_any text)
perform_kept kept t urls registers stores others d agree holds (step.Open text target noopener user to) = opened_kept t urls registers stores others d target noopener user (if_any text)
perform_kept kept t urls registers stores others d agree holds (step.Link text target rel user) = refl
perform_kept kept t urls registers stores others d agree holds (step.Domain text) = refl
perform_kept kept t urls registers stores others d agree holds step.Sync = refl
perform_kept kept t urls registers stores others d agree holds (step.Drop index) = refl

-- PROPERTIES AFTERWARDS

same_object_is : (a b : Object) → same_object a b ≡ true → a ≡ b
same_object_is (object.Window a) (object.Window b) h = ap object.Window (eqb-true a b h)
same_object_is (object.Location a) (object.Location b) h = ap object.Location (eqb-true a b h)
same_object_is (object.Window a) (object.Location b) h = absurd (false≢true h)
same_object_is (object.Location a) (object.Window b) h = absurd (false≢true h)

left_kept : (kept : ℕ → Bool) (stores others : Object → Store) (key : Key) (act : Act) (seen : Option Seen) → AgreeOn kept stores others → AgreeOn kept (left_by stores key act seen) (left_by others key act seen)
left_kept kept stores others key act None agree o k = agree o k
left_kept kept stores others key act (Some seen) agree o k = by_test (same_object o seen.object) refl
  where
    by_test : (b : Bool) → same_object o seen.object ≡ b
        → (if b then access.store_left seen (stores seen.object) key act else stores o) ≡ (if b then access.store_left seen (others seen.object) key act else others o)
    by_test true e =
        let is : o ≡ seen.object = same_object_is o seen.object e in
        ap (λ (props : Store). access.store_left seen props key act) (agree seen.object (subst (λ (x : Object). kept (document_of x) ≡ true) is k))
    by_test false e = agree o k

object_same_stores : (t : Tree) (urls : ℕ → List ℕ) (registers : ℕ → List ℕ → Value) (stores others : Object → Store) (d : ℕ) (v : Value)
    → object_of (sight_with t urls registers stores) d v ≡ object_of (sight_with t urls registers others) d v
object_same_stores t urls registers stores others d (value.Window n) = refl
object_same_stores t urls registers stores others d (value.Location e) = refl
object_same_stores t urls registers stores others d v = refl

changed_kept : (kept : ℕ → Bool) (t : Tree) (urls : ℕ → List ℕ) (registers : ℕ → List ℕ → Value) (stores others : Object → Store) (d : ℕ) (s : Step) → AgreeOn kept stores others
    → AgreeOn kept (step_stores (sight_with t urls registers stores) d s) (step_stores (sight_with t urls registers others) d s)
unfolding step_stores held
changed_kept kept t urls registers stores others d (step.Set of key given user) agree o k =
    let v : Value = held (sight_with t urls registers stores) d of in
    left_kept kept stores others key (Set (operand_value (sight_with t urls registers stores) d given)) (object_of (sight_with t urls registers stores) d v) agree o k
    ∙ ap (λ (w : Value). left_by others key (Set w) (object_of (sight_with t urls registers stores) d v) o) (operand_kept t urls registers stores others d given)
    ∙ ap (λ (seen : Option Seen). left_by others key (Set (operand_value (sight_with t urls registers others) d given)) seen o) (object_same_stores t urls registers stores others d v)
changed_kept kept t urls registers stores others d (step.Define of key given writable enumerable configurable) agree o k =
    let v : Value = held (sight_with t urls registers stores) d of in
    left_kept kept stores others key (Define (change_of (sight_with t urls registers stores) d given writable enumerable configurable)) (object_of (sight_with t urls registers stores) d v) agree o k
    ∙ ap (λ (f : Operand → Value). left_by others key (Define (record { value = option_map f given; writable = writable; enumerable = enumerable; configurable = configurable })) (object_of (sight_with t urls registers stores) d v) o)
    (operands_kept t urls registers stores others d)
    ∙ ap (λ (seen : Option Seen). left_by others key (Define (change_of (sight_with t urls registers others) d given writable enumerable configurable)) seen o) (object_same_stores t urls registers stores others d v)
changed_kept kept t urls registers stores others d (step.Delete of key) agree o k =
    let v : Value = held (sight_with t urls registers stores) d of in
    left_kept kept stores others key Delete (object_of (sight_with t urls registers stores) d v) agree o k
    ∙ ap (λ (seen : Option Seen). left_by others key Delete seen o) (object_same_stores t urls registers stores others d v)
changed_kept kept t urls registers stores others d s agree o k = agree o k

-- ON A BLANKED LOG

-- a step of a document that is kept, where its registers hold objects of kept or foreign documents
pub perform-blanked : (kept : ℕ → Bool) (log : List Entry) (registers : ℕ → List ℕ → Value) (stores others : Object → Store) (d : ℕ) (s : Step) → kept d ≡ true → HoldsKept kept (sight_of log registers stores) d
    → AgreeOn kept stores others → perform (sight_of (blanked kept log) registers others) d s ≡ perform (sight_of log registers stores) d s
unfolding held
perform-blanked kept log registers stores others d s mine holds agree =
    rw (tree_of-blanked kept log)
    (perform_same (tree_of log) (url_of (blanked kept log)) (url_of log) registers others d (url_of-blanked kept log d mine)
    (λ name e is. elim (holds.locations name e is) as (λ _. IsMet (tree_of log) (url_of (blanked kept log)) (url_of log) d e) [ inl k ↦ inl (url_of-blanked kept log e k) | inr far ↦ inr far ]) s
    ∙ sym (perform_kept kept (tree_of log) (url_of log) registers stores others d agree holds s))

-- the properties of the objects of kept documents after a step
pub changed-blanked : (kept : ℕ → Bool) (log : List Entry) (registers : ℕ → List ℕ → Value) (stores others : Object → Store) (d : ℕ) (s : Step) → AgreeOn kept stores others
    → AgreeOn kept (step_stores (sight_of (blanked kept log) registers others) d s) (step_stores (sight_of log registers stores) d s)
changed-blanked kept log registers stores others d s agree o k =
    rw (tree_of-blanked kept log)
    (ap (λ (f : Object → Store). f o) (changed_same (tree_of log) (url_of (blanked kept log)) (url_of log) registers others d s)
    ∙ sym (changed_kept kept (tree_of log) (url_of log) registers stores others d s agree o k))

-- REGISTERS OF ONE GROUP

both_true : (a b : Bool) → a ≡ true → b ≡ true → (a && b) ≡ true
both_true a b h k = rw (h, k) refl

open_seen : (t : Tree) (d e : ℕ) → same_group t (nav_of t d) (nav_of t e) ≡ true → (b : Bool) → same_domain t d e ≡ b → (is_seen_by t d e ≡ true) ⊎ (same_domain t d e ≡ false)
open_seen t d e group true own = inl (or_right (e == d) (is_open_to t d e) (both_true (same_group t (nav_of t d) (nav_of t e)) (same_domain t d e) group own))
  where
    or_right : (a b : Bool) → b ≡ true → (a || b) ≡ true
    or_right true b h = refl
    or_right false b h = h
open_seen t d e group false own = inr own

kept_or_foreign : (kept : ℕ → Bool) (t : Tree) (d e : ℕ) → ((x : ℕ) → is_seen_by t d x ≡ true → kept x ≡ true) → same_group t (nav_of t d) (nav_of t e) ≡ true → IsKeptOrForeign kept t d e
kept_or_foreign kept t d e sees group =
    elim (open_seen t d e group (same_domain t d e) refl) as (λ _. IsKeptOrForeign kept t d e) [ inl seen ↦ inl (sees e seen) | inr far ↦ inr far ]

-- where registers hold objects of the group alone, it is enough that what the document sees is kept
pub group_kept : (kept : ℕ → Bool) (log : List Entry) (registers : ℕ → List ℕ → Value) (stores : Object → Store) (d : ℕ) → AreAdmitted log
    → ((e : ℕ) → is_seen_by (tree_of log) d e ≡ true → kept e ≡ true) → HoldsGroup (sight_of log registers stores) d → HoldsKept kept (sight_of log registers stores) d
group_kept kept log registers stores d all sees holds =
    let t : Tree = tree_of log in
    record {
      windows = λ name n is.
          let place : nav_of t (t.nav n).active ≡ n = (admitted_well log all).placed n (holds.there name n is) in
          kept_or_foreign kept t d (t.nav n).active sees (ap (λ (m : ℕ). same_group t (nav_of t d) m) place ∙ holds.windows name n is);
      locations = λ name e is. kept_or_foreign kept t d e sees (holds.locations name e is);
    }

-- a document sees itself
pub sees_itself : (t : Tree) (d : ℕ) → is_seen_by t d d ≡ true
sees_itself t d = rw (eq-eqb d d refl) refl

pub perform_in_group : (kept : ℕ → Bool) (log : List Entry) (registers : ℕ → List ℕ → Value) (stores others : Object → Store) (d : ℕ) (s : Step) → AreAdmitted log
    → ((e : ℕ) → is_seen_by (tree_of log) d e ≡ true → kept e ≡ true) → HoldsGroup (sight_of log registers stores) d → AgreeOn kept stores others
    → perform (sight_of (blanked kept log) registers others) d s ≡ perform (sight_of log registers stores) d s
perform_in_group kept log registers stores others d s all sees holds agree =
    perform-blanked kept log registers stores others d s (sees d (sees_itself (tree_of log) d)) (group_kept kept log registers stores d all sees holds) agree
