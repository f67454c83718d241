-- A step on a blanked log.
use Rattle.std.proofs.Common.{◌≡◌, ℕ, List, [], ◌∷◌, map, Option, Some, None, Bool, false, refl, ap, ◌∙◌, if◌then◌else◌, inl, inr}
use Rattle.std.specs.Prelude.{◌⊎◌, unwrap_or}
use Rattle.std.specs.Option.{option_map, option_map_or}
use Rattle.origin_core.specs.Page.{read_page}
use Rattle.origin_core.specs.Flags.{flags_of}
use Rattle.window_props.specs.declared.key.Key.{Key}
use Rattle.window_props.specs.declared.value.Value.{Value}
use Rattle.window_props.specs.declared.value.Value.TheVariants as value
use Rattle.window_props.specs.declared.value.Method.{Method}
use Rattle.window_props.specs.declared.value.Method.TheVariants.{Assign, Replace}
use Rattle.window_props.specs.declared.platform.Object.{Object}
use Rattle.window_props.specs.declared.platform.Object.TheVariants as object
use Rattle.window_props.specs.declared.descriptor.Change.{Change}
use Rattle.window_props.specs.Platform.{named}
use Rattle.window_props.specs.Values.{same_object}
use Rattle.window_props.specs.Ordinary.{Act, Define, Set, Delete}
use Rattle.window_props.specs.History.{Store}
use Rattle.tree_log.specs.Tree.{Tree, origin_of, same_domain}
use Rattle.agent_terms.specs.declared.step.Operand.{Operand}
use Rattle.agent_terms.specs.declared.step.Operand.TheVariants as operand
use Rattle.agent_terms.specs.declared.step.Step.{Step}
use Rattle.agent_terms.specs.declared.step.Step.TheVariants as step
use Rattle.agent_terms.specs.declared.act.Performed.TheVariants.{Answer}
use Rattle.agent_terms.specs.declared.outcome.Outcome.{Outcome}
use Rattle.agent_terms.specs.declared.outcome.Outcome.TheVariants as outcome
use Rattle.object_access.specs.Values.{undefined}
use Rattle.object_access.specs.Access as access
use Rattle.object_access.specs.Access.{Seen, got, own_property, foreign_property}
use Rattle.object_access.specs.Going.{or_else_outcome}
use Rattle.object_access.specs.WindowAccess.{window, window_of}
use Rattle.object_access.specs.LocationAccess.{location}
use Rattle.object_access.specs.Methods.{sent, built_in, run, run_found, run_got, called}
use Rattle.object_access.specs.StepAnswer.{Sight, held, operand_value, object_of, performed, on_object, change_of, if_any, frame_at, frame_step, open_at, open_step, link_at, gives_no_opener, perform, step_stores}
use Rattle.agent_laws.proofs.Blanked.BlankedAccess.{same_everywhere, text_same, go_same, set_by_same, location_set_same, window_same, location_same, foreign_got_same}

-- CALLS

sent_same : (t : Tree) (urls others : ℕ → List ℕ) (asker doc : ℕ) (args : List Value) → urls asker ≡ others asker → sent t urls asker doc args ≡ sent t others asker doc args
unfolding sent
sent_same t urls others asker doc [] e = refl
sent_same t urls others asker doc (v ∷ more) e = text_same _ _ _ (λ text. ap (or_else_outcome (outcome.Value undefined)) (go_same t urls others asker doc text e))

run_same : (t : Tree) (urls others : ℕ → List ℕ) (asker : ℕ) (o : Object) (m : Method) (args : List Value) → urls asker ≡ others asker → run t urls asker o m args ≡ run t others asker o m args
run_same t urls others asker (object.Location d) Assign args e = sent_same t urls others asker d args e
run_same t urls others asker (object.Location d) Replace args e = sent_same t urls others asker d args e
run_same t urls others asker o m args e = refl

run_found_same : (t : Tree) (urls others : ℕ → List ℕ) (asker : ℕ) (o : Object) (args : List Value) (m : Option Method) → urls asker ≡ others asker → run_found t urls asker o args m ≡ run_found t others asker o args m
run_found_same t urls others asker o args None e = refl
run_found_same t urls others asker o args (Some m) e = run_same t urls others asker o m args e

run_got_same : (t : Tree) (urls others : ℕ → List ℕ) (asker : ℕ) (o : Object) (key : Key) (args : List Value) (a : Outcome) → urls asker ≡ others asker → run_got t urls asker o key args a ≡ run_got t others asker o key args a
run_got_same t urls others asker o key args (outcome.Value v) e = run_found_same t urls others asker o args (built_in o key v) e
run_got_same t urls others asker o key args other e = refl

called_same : (t : Tree) (urls others : ℕ → List ℕ) (asker : ℕ) (seen : Seen) (props : Store) (key : Key) (args : List Value) → urls asker ≡ others asker → called t urls asker seen props key args ≡ called t others asker seen props key args
unfolding called
called_same t urls others asker seen props key args e = run_got_same t urls others asker seen.object key args (got seen props key) e

-- LOCATIONS

-- the Location, but for what its getters give
ungot : (t : Tree) (urls others : ℕ → List ℕ) (asker d : ℕ) → urls asker ≡ others asker → location t urls asker d ≡ record (location t others asker d) { getter = (location t urls asker d).getter }
unfolding location
ungot t urls others asker d e =
    ap (λ (f : Key → Value → Outcome). record (location t urls asker d) { setter = f })
    (same_everywhere _ _ (λ key. same_everywhere _ _ (λ v. set_by_same (named (object.Location d) key) _ _ (λ p. location_set_same t urls others asker d p v e))))

-- what is done with an object that isn't a get
abbrev IsUnread : (Seen → Outcome) → Type 0
IsUnread f = (seen : Seen) (getter : Key → Value) → f (record seen { getter = getter }) ≡ f seen

unread_same : (f : Seen → Outcome) (t : Tree) (urls others : ℕ → List ℕ) (asker d : ℕ) → IsUnread f → urls asker ≡ others asker → f (location t urls asker d) ≡ f (location t others asker d)
unread_same f t urls others asker d unread e = ap f (ungot t urls others asker d e) ∙ unread (location t others asker d) (location t urls asker d).getter

has_unread : (stores : Object → Store) (key : Key) → IsUnread (λ seen. access.has seen (stores seen.object) key)
unfolding access.has own_property foreign_property
has_unread stores key seen getter = refl

described_unread : (stores : Object → Store) (key : Key) → IsUnread (λ seen. access.described seen (stores seen.object) key)
unfolding access.described own_property foreign_property
described_unread stores key seen getter = refl

keys_unread : (stores : Object → Store) → IsUnread (λ seen. access.keys seen (stores seen.object))
unfolding access.keys
keys_unread stores seen getter = refl

prototype_unread : IsUnread access.prototype
unfolding access.prototype
prototype_unread seen getter = refl

set_unread : (stores : Object → Store) (key : Key) (v : Value) → IsUnread (λ seen. access.set seen (stores seen.object) key v)
unfolding access.set foreign_property
set_unread stores key v seen getter = refl

defined_unread : (stores : Object → Store) (key : Key) (change : Change) → IsUnread (λ seen. access.defined seen (stores seen.object) key change)
unfolding access.defined
defined_unread stores key change seen getter = refl

deleted_unread : (stores : Object → Store) (key : Key) → IsUnread (λ seen. access.deleted seen (stores seen.object) key)
unfolding access.deleted
deleted_unread stores key seen getter = refl

-- a get and a call on a foreign Location
foreign_get : (t : Tree) (urls others : ℕ → List ℕ) (asker d : ℕ) (stores : Object → Store) (key : Key) → same_domain t asker d ≡ false
    → got (location t urls asker d) (stores (location t urls asker d).object) key ≡ got (location t others asker d) (stores (location t others asker d).object) key
unfolding location
foreign_get t urls others asker d stores key foreign = foreign_got_same t urls others asker d (stores (object.Location d)) key foreign

foreign_call : (t : Tree) (urls others : ℕ → List ℕ) (asker d : ℕ) (stores : Object → Store) (key : Key) (args : List Value) → urls asker ≡ others asker → same_domain t asker d ≡ false
    → called t urls asker (location t urls asker d) (stores (location t urls asker d).object) key args ≡ called t others asker (location t others asker d) (stores (location t others asker d).object) key args
unfolding called location
foreign_call t urls others asker d stores key args e foreign =
    ap (run_got t urls asker (object.Location d) key args) (foreign_get t urls others asker d stores key foreign)
    ∙ run_got_same t urls others asker (object.Location d) key args (got (location t others asker d) (stores (object.Location d)) key) e

-- OPERATIONS

abbrev pub sight_with : Tree → (ℕ → List ℕ) → (ℕ → List ℕ → Value) → (Object → Store) → Sight
sight_with t urls registers stores = record { tree = t; urls = urls; registers = registers; stores = stores }

-- the Location of e is met the same, or is foreign
abbrev pub IsMet : Tree → (ℕ → List ℕ) → (ℕ → List ℕ) → ℕ → ℕ → Type 0
IsMet t urls others d e = (urls e ≡ others e) ⊎ (same_domain t d e ≡ false)

abbrev pub done_with : Option Seen → (Seen → Outcome) → Outcome
done_with o f = elim o as (λ _. Outcome) [ None ↦ outcome.TypeFault | Some seen ↦ f seen ]

value_same : (t : Tree) (urls others : ℕ → List ℕ) (registers : ℕ → List ℕ → Value) (stores : Object → Store) (d : ℕ) (f g : Seen → Outcome) → urls d ≡ others d → ((seen : Seen) → f seen ≡ g seen)
    → ((e : ℕ) → same_domain t d e ≡ false → f (location t urls d e) ≡ g (location t others d e))
    → (v : Value) → ((e : ℕ) → v ≡ value.Location e → IsMet t urls others d e)
    → done_with (object_of (sight_with t urls registers stores) d v) f ≡ done_with (object_of (sight_with t others registers stores) d v) g
value_same t urls others registers stores d f g same fg foreign (value.Window n) met = ap f (window_same t urls others d n (t.nav n).active same) ∙ fg (window t others d n)
value_same t urls others registers stores d f g same fg foreign (value.Location e) met =
    elim (met e refl) as (λ _. f (location t urls d e) ≡ g (location t others d e)) [
      | inl its ↦ ap f (location_same t urls others d e same its) ∙ fg (location t others d e)
      | inr far ↦ foreign e far
    ]
value_same t urls others registers stores d f g same fg foreign v met = refl

-- the Locations in registers are met the same, or are foreign
abbrev pub AreMet : Tree → (ℕ → List ℕ) → (ℕ → List ℕ) → (ℕ → List ℕ → Value) → (Object → Store) → ℕ → Type 0
AreMet t urls others registers stores d = (name : List ℕ) (e : ℕ) → held (sight_with t urls registers stores) d name ≡ value.Location e → IsMet t urls others d e

object_same : (t : Tree) (urls others : ℕ → List ℕ) (registers : ℕ → List ℕ → Value) (stores : Object → Store) (d : ℕ) (user : Bool) (of : List ℕ) (f g : Seen → Outcome) → urls d ≡ others d → ((seen : Seen) → f seen ≡ g seen)
    → ((e : ℕ) → same_domain t d e ≡ false → f (location t urls d e) ≡ g (location t others d e)) → AreMet t urls others registers stores d
    → on_object (sight_with t urls registers stores) d user of f ≡ on_object (sight_with t others registers stores) d user of g
unfolding on_object held
object_same t urls others registers stores d user of f g same fg foreign met =
    ap (performed d user) (value_same t urls others registers stores d f g same fg foreign (held (sight_with t urls registers stores) d of) (met of))

-- an operation that isn't a get
plain_same : (t : Tree) (urls others : ℕ → List ℕ) (registers : ℕ → List ℕ → Value) (stores : Object → Store) (d : ℕ) (user : Bool) (of : List ℕ) (f g : Seen → Outcome) → urls d ≡ others d → ((seen : Seen) → f seen ≡ g seen)
    → IsUnread f → AreMet t urls others registers stores d
    → on_object (sight_with t urls registers stores) d user of f ≡ on_object (sight_with t others registers stores) d user of g
plain_same t urls others registers stores d user of f g same fg unread met =
    object_same t urls others registers stores d user of f g same fg (λ e far. unread_same f t urls others d e unread same ∙ fg (location t others d e)) met

operand_same : (t : Tree) (urls others : ℕ → List ℕ) (registers : ℕ → List ℕ → Value) (stores : Object → Store) (d : ℕ) (given : Operand)
    → operand_value (sight_with t urls registers stores) d given ≡ operand_value (sight_with t others registers stores) d given
unfolding operand_value held
operand_same t urls others registers stores d (operand.Register name) = refl
operand_same t urls others registers stores d (operand.Plain given) = refl

operands_same : (t : Tree) (urls others : ℕ → List ℕ) (registers : ℕ → List ℕ → Value) (stores : Object → Store) (d : ℕ)
    → operand_value (sight_with t urls registers stores) d ≡ operand_value (sight_with t others registers stores) d
operands_same t urls others registers stores d = same_everywhere _ _ (λ given. operand_same t urls others registers stores d given)

framed_same : (t : Tree) (urls others : ℕ → List ℕ) (registers : ℕ → List ℕ → Value) (stores : Object → Store) (d : ℕ) (name : List ℕ) (flags : ℕ) (text : Option (List ℕ)) → urls d ≡ others d
    → frame_step (sight_with t urls registers stores) d name flags text ≡ frame_step (sight_with t others registers stores) d name flags text
unfolding frame_step
framed_same t urls others registers stores d name flags None e = refl
framed_same t urls others registers stores d name flags (Some text) e = ap (λ (u : List ℕ). frame_at d name flags (read_page (Some u) text)) e

opened_same : (t : Tree) (urls others : ℕ → List ℕ) (registers : ℕ → List ℕ → Value) (stores : Object → Store) (d : ℕ) (target : List ℕ) (noopener user : Bool) (text : Option (List ℕ)) → urls d ≡ others d
    → open_step (sight_with t urls registers stores) d target noopener user text ≡ open_step (sight_with t others registers stores) d target noopener user text
unfolding open_step
opened_same t urls others registers stores d target noopener user None e = refl
opened_same t urls others registers stores d target noopener user (Some text) e = ap (λ (u : List ℕ). open_at d target noopener user (read_page (Some u) text)) e

-- A STEP

pub perform_same : (t : Tree) (urls others : ℕ → List ℕ) (registers : ℕ → List ℕ → Value) (stores : Object → Store) (d : ℕ) → urls d ≡ others d → AreMet t urls others registers stores d → (s : Step)
    → perform (sight_with t urls registers stores) d s ≡ perform (sight_with t others registers stores) d s
unfolding perform
perform_same t urls others registers stores d e met (step.Let to given) = ap (λ (v : Value). Answer (outcome.Value v)) (operand_same t urls others registers stores d given)
perform_same t urls others registers stores d e met (step.Get of key to) =
    object_same t urls others registers stores d false of _ _ e (λ seen. refl) (λ x far. foreign_get t urls others d x stores key far) met
perform_same t urls others registers stores d e met (step.Has of key) = plain_same t urls others registers stores d false of _ _ e (λ seen. refl) (has_unread stores key) met
perform_same t urls others registers stores d e met (step.Describe of key) = plain_same t urls others registers stores d false of _ _ e (λ seen. refl) (described_unread stores key) met
perform_same t urls others registers stores d e met (step.Keys of) = plain_same t urls others registers stores d false of _ _ e (λ seen. refl) (keys_unread stores) met
perform_same t urls others registers stores d e met (step.Proto of) = plain_same t urls others registers stores d false of _ _ e (λ seen. refl) prototype_unread met
perform_same t urls others registers stores d e met (step.SetProto of) = plain_same t urls others registers stores d false of _ _ e (λ seen. refl) (λ seen getter. refl) met
perform_same t urls others registers stores d e met (step.Extensible of) = plain_same t urls others registers stores d false of _ _ e (λ seen. refl) (λ seen getter. refl) met
perform_same t urls others registers stores d e met (step.Prevent of) = plain_same t urls others registers stores d false of _ _ e (λ seen. refl) (λ seen getter. refl) met
perform_same t urls others registers stores d e met (step.Set of key given user) =
    plain_same t urls others registers stores d user of _ _ e (λ seen. ap (access.set seen (stores seen.object) key) (operand_same t urls others registers stores d given))
    (set_unread stores key (operand_value (sight_with t urls registers stores) d given)) met
perform_same t urls others registers stores d e met (step.Define of key given writable enumerable configurable) =
    plain_same t urls others registers stores d false of _ _ e
    (λ seen. ap (λ (f : Operand → Value). access.defined seen (stores seen.object) key (record { value = option_map f given; writable = writable; enumerable = enumerable; configurable = configurable })) (operands_same t urls others registers stores d))
    (defined_unread stores key (change_of (sight_with t urls registers stores) d given writable enumerable configurable)) met
perform_same t urls others registers stores d e met (step.Delete of key) = plain_same t urls others registers stores d false of _ _ e (λ seen. refl) (deleted_unread stores key) met
perform_same t urls others registers stores d e met (step.Call of key args to user) =
    let given : map (operand_value (sight_with t urls registers stores) d) args ≡ map (operand_value (sight_with t others registers stores) d) args =
    ap (λ (f : Operand → Value). map f args) (operands_same t urls others registers stores d) in
    object_same t urls others registers stores d user of _ _ e
    (λ seen. called_same t urls others d seen (stores seen.object) key (map (operand_value (sight_with t urls registers stores) d) args) e
    ∙ ap (called t others d seen (stores seen.object) key) given)
    (λ x far. foreign_call t urls others d x stores key (map (operand_value (sight_with t urls registers stores) d) args) e far
    ∙ ap (called t others d (location t others d x) (stores (location t others d x).object) key) given) met
perform_same t urls others registers stores d e met (step.Frame text name sandbox to) = framed_same t urls others registers stores d (unwrap_or name []) (option_map_or flags_of sandbox 0) (if_any text) e
perform_same t urls others registers stores d e met (step.Open text target noopener user to) = opened_same t urls others registers stores d target noopener user (if_any text) e
perform_same t urls others registers stores d e met (step.Link text target rel user) = ap (λ (u : List ℕ). link_at d target (gives_no_opener rel target) user (read_page (Some u) text)) e
perform_same t urls others registers stores d e met (step.Domain text) = refl
perform_same t urls others registers stores d e met step.Sync = refl
perform_same t urls others registers stores d e met (step.Drop index) = refl

-- PROPERTIES AFTERWARDS

abbrev pub left_by : (Object → Store) → Key → Act → Option Seen → Object → Store
left_by stores key act o = elim o as (λ _. Object → Store) [ None ↦ stores | Some seen ↦ λ x. if same_object x seen.object then access.store_left seen (stores seen.object) key act else stores x ]

left_same : (t : Tree) (urls others : ℕ → List ℕ) (registers : ℕ → List ℕ → Value) (stores : Object → Store) (d : ℕ) (key : Key) (act : Act) (v : Value)
    → left_by stores key act (object_of (sight_with t urls registers stores) d v) ≡ left_by stores key act (object_of (sight_with t others registers stores) d v)
unfolding window_of location access.store_left
left_same t urls others registers stores d key act (value.Window n) = refl
left_same t urls others registers stores d key act (value.Location e) = refl
left_same t urls others registers stores d key act v = refl

pub changed_same : (t : Tree) (urls others : ℕ → List ℕ) (registers : ℕ → List ℕ → Value) (stores : Object → Store) (d : ℕ) (s : Step)
    → step_stores (sight_with t urls registers stores) d s ≡ step_stores (sight_with t others registers stores) d s
unfolding step_stores held
changed_same t urls others registers stores d (step.Set of key given user) =
    ap (λ (v : Value). left_by stores key (Set v) (object_of (sight_with t urls registers stores) d (held (sight_with t urls registers stores) d of))) (operand_same t urls others registers stores d given)
    ∙ left_same t urls others registers stores d key (Set (operand_value (sight_with t others registers stores) d given)) (held (sight_with t urls registers stores) d of)
changed_same t urls others registers stores d (step.Define of key given writable enumerable configurable) =
    ap (λ (f : Operand → Value). left_by stores key (Define (record { value = option_map f given; writable = writable; enumerable = enumerable; configurable = configurable }))
    (object_of (sight_with t urls registers stores) d (held (sight_with t urls registers stores) d of))) (operands_same t urls others registers stores d)
    ∙ left_same t urls others registers stores d key (Define (change_of (sight_with t others registers stores) d given writable enumerable configurable)) (held (sight_with t urls registers stores) d of)
changed_same t urls others registers stores d (step.Delete of key) = left_same t urls others registers stores d key Delete (held (sight_with t urls registers stores) d of)
changed_same t urls others registers stores d s = refl
