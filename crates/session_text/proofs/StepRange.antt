-- What the readers of steps give is in range.
use Rattle.std.proofs.Common.{inl, inr, ◌≡◌, ◌⊎◌, ◌≤◌, ℕ, List, [], ◌∷◌, ◌++◌, length, All, Bool, true, false, Some, None, Ok, Err, ap, arith, lit≤}
use Rattle.std.specs.Prelude.{Option, IfSome, codes, if◌then◌else◌, bytes_eq}
use Rattle.std.proofs.lemmas.List.Elements.{All-nil, All-push}
use Rattle.window_props.specs.declared.key.Key.{Key}
use Rattle.window_props.specs.declared.key.Key.TheVariants.{Text, ToStringTag, HasInstance, IsConcatSpreadable}
use Rattle.window_props.specs.Keys.{key_read, key_text}
use Rattle.plain_data.specs.declared.data.Data.{Data}
use Rattle.agent_terms.specs.declared.step.OpName.{OpName}
use Rattle.agent_terms.specs.declared.step.OpName.TheVariants as op
use Rattle.agent_terms.specs.declared.step.Operand.{Operand}
use Rattle.agent_terms.specs.declared.step.Operand.TheVariants as operand
use Rattle.agent_terms.specs.declared.step.Step.{Step}
use Rattle.agent_terms.specs.declared.step.Step.TheVariants as step
use Rattle.agent_terms.specs.Built.{is_built, IsBuilt}
use Rattle.agent_terms.specs.Limits.{most_steps, most_args, most_index}
use Rattle.session_reading.specs.declared.name.Name.{Name}
use Rattle.session_reading.specs.declared.name.Name.TheVariants as its
use Rattle.session_reading.specs.Refusing.{Outcome, ◌>>=◌}
use Rattle.session_reading.specs.Reading.{Json, text, truth, list_of}
use Rattle.session_reading.specs.Forms.{Fields, fields_of, read_field, read_field_or, read_optional, ends}
use Rattle.session_reading.specs.PlainData.{plain, limited, data_read}
use Rattle.plain_data.specs.DataLimits.{most_text, within_limits}
use Rattle.session_reading.proofs.Read.{bind_ok, then_ok, else_ok, read_field_ok, read_field_or_ok, read_optional_ok, whole_ok, text_ok, each_keeps, list_ok}
use Rattle.session_text.specs.Steps.{is_register, is_kept, register, receiver, key, named_in, operand_of, operand_read, args_read, index_read, let_step, get_step, set_step, define_step, call_step, frame_step, open_step, link_step, of_alone, of_and_key, index_alone, step_by, op_read, built_step, step_read}
use Rattle.session_text.specs.Range.{IsRegister, IsReceiver, IsText, IsKey, IsIndex, IsOperand, AreArgs, IsStep, AreSteps}

-- what was read, where something was
abbrev pub read_or : {A : Type 0} → A → Outcome A → A
read_or absent (Ok a) = a
read_or absent (Err e) = absent

-- FIELDS

field_keeps : {A : Type 0} (P : A → Type 0) (read : Json → Outcome A) (keeps : (j : Json) (a : A) → read j ≡ Ok a → P a) (name : Name) (f : Fields) (x : A × Fields) → read_field name read f ≡ Ok x → P x.0
field_keeps P read keeps name f x e = let held = read_field_ok name read f x e in keeps held.0 x.0 held.1

or_keeps : {A : Type 0} (P : A → Type 0) (read : Json → Outcome A) (keeps : (j : Json) (a : A) → read j ≡ Ok a → P a) (absent : A) (fine : P absent) (a : A) → (absent ≡ a) ⊎ ((held : Json) × (read held ≡ Ok a)) → P a
or_keeps P read keeps absent fine a (inl same) = rw (← same) fine
or_keeps P read keeps absent fine a (inr held) = keeps held.0 a held.1

field_or_keeps : {A : Type 0} (P : A → Type 0) (read : Json → Outcome A) (keeps : (j : Json) (a : A) → read j ≡ Ok a → P a) (name : Name) (absent : A) (fine : P absent) (f : Fields) (x : A × Fields) → read_field_or name absent read f ≡ Ok x → P x.0
field_or_keeps P read keeps name absent fine f x e = or_keeps P read keeps absent fine x.0 (read_field_or_ok name absent read f x e)

there_keeps : {A : Type 0} (P : A → Type 0) (read : Json → Outcome A) (keeps : (j : Json) (a : A) → read j ≡ Ok a → P a) (o : Option A) → (None ≡ o) ⊎ ((held : Json) × ((a : A) × (read held ≡ Ok a) × (Some a ≡ o))) → IfSome o P
there_keeps P read keeps o (inl same) = rw (← same) tt
there_keeps P read keeps o (inr held) = let it = held.1 in rw (← it.2) (keeps held.0 it.0 it.1)

optional_keeps : {A : Type 0} (P : A → Type 0) (read : Json → Outcome A) (keeps : (j : Json) (a : A) → read j ≡ Ok a → P a) (name : Name) (f : Fields) (x : Option A × Fields) → read_optional name read f ≡ Ok x → IfSome x.0 P
optional_keeps P read keeps name f x e = there_keeps P read keeps x.0 (read_optional_ok name read f x e)

-- VALUES

register_ok : (j : Json) (s : List ℕ) → register j ≡ Ok s → IsRegister s
unfolding register
register_ok j s e =
    let held = bind_ok (text j) _ s e in
    let fits = then_ok (is_register held.0) (Ok held.0) _ s held.2 in
    let same : held.0 ≡ s = let kept = fits.1 in cc in
    rw (← same) fits.0

receiver_ok : (j : Json) (s : List ℕ) → receiver j ≡ Ok s → IsReceiver s
unfolding receiver
receiver_ok j s e =
    let name = bind_ok (register j) _ s e in
    let free = else_ok (is_kept name.0) (Ok name.0) _ s name.2 in
    let same : name.0 ≡ s = let kept = free.1 in cc in
    rw (← same) (record { register = register_ok j name.0 name.1; free = free.0 })

-- a symbol's text is short, and that of any other key is the text that was read
key_of : (a b c : Bool) (s : List ℕ) → length s ≤ most_text → length (key_text (if a then ToStringTag else if b then HasInstance else if c then IsConcatSpreadable else Text s)) ≤ most_text
unfolding key_text
key_of true b c s short = omega arith
key_of false true c s short = omega arith
key_of false false true s short = omega arith
key_of false false false s short = short

key_ok : (j : Json) (k : Key) → key j ≡ Ok k → IsKey k
unfolding key key_read
key_ok j k e =
    let s = bind_ok (text j) _ k e in
    let same : key_read s.0 ≡ k = let kept = s.2 in cc in
    rw (← same) (key_of (bytes_eq s.0 (codes "@@toStringTag")) (bytes_eq s.0 (codes "@@hasInstance")) (bytes_eq s.0 (codes "@@isConcatSpreadable")) s.0 (text_ok j s.0 s.1))

index_ok : (j : Json) (n : ℕ) → index_read j ≡ Ok n → IsIndex n
index_ok j n e = (whole_ok 0 most_index j n e).1

data_ok : (j : Json) (value : Data) → data_read j ≡ Ok value → within_limits value ≡ true
unfolding data_read limited
data_ok j value e =
    let whole = else_ok _ (plain j >>= limited) _ value e in
    let read = bind_ok (plain j) limited value whole.1 in
    let fits = then_ok (within_limits read.0) (Ok read.0) _ value read.2 in
    let same : read.0 ≡ value = let kept = fits.1 in cc in
    rw (← same) fits.0

operand_by : (o : Option (List ℕ)) (j : Json) (value : Operand) → operand_of o j ≡ Ok value → IsOperand value
operand_by (Some name) j value e =
    let fits = then_ok (is_register name) (Ok (operand.Register name)) _ value e in
    let same : operand.Register name ≡ value = let kept = fits.1 in cc in
    rw (← same) fits.0
operand_by None j value e =
    let read = bind_ok (data_read j) _ value e in
    let same : operand.Plain read.0 ≡ value = let kept = read.2 in cc in
    rw (← same) (data_ok j read.0 read.1)

operand_ok : (j : Json) (value : Operand) → operand_read j ≡ Ok value → IsOperand value
unfolding operand_read
operand_ok j value e = operand_by (named_in j) j value e

args_ok : (j : Json) (args : List Operand) → args_read j ≡ Ok args → AreArgs args
args_ok j args e =
    let found = list_ok 0 most_args (λ _. operand_read) j args e in
    record {
      few = found.at_most;
      all = each_keeps (All IsOperand) (λ _. operand_read) (λ before j value fine e. All-push IsOperand before value fine (operand_ok j value e)) [] found.items.0 args (All-nil IsOperand) found.items.1;
    }

-- STEPS

let_ok : (f : Fields) (s : Step) → let_step f ≡ Ok s → IsStep s
unfolding let_step
let_ok f s e =
    let to = bind_ok (read_optional its.To receiver f) _ s e in
    let value = bind_ok (read_field its.Value operand_read to.0.1) _ s to.2 in
    let others = bind_ok (ends (value.0.1)) _ s value.2 in
    let same : step.Let to.0.0 value.0.0 ≡ s = let kept = others.2 in cc in
    rw (← same) (optional_keeps IsReceiver receiver receiver_ok its.To f to.0 to.1, field_keeps IsOperand operand_read operand_ok its.Value to.0.1 value.0 value.1)

get_ok : (f : Fields) (s : Step) → get_step f ≡ Ok s → IsStep s
unfolding get_step
get_ok f s e =
    let of = bind_ok (read_field its.Of register f) _ s e in
    let k = bind_ok (read_field its.Key key of.0.1) _ s of.2 in
    let to = bind_ok (read_optional its.To receiver k.0.1) _ s k.2 in
    let others = bind_ok (ends (to.0.1)) _ s to.2 in
    let same : step.Get of.0.0 k.0.0 to.0.0 ≡ s = let kept = others.2 in cc in
    rw (← same) (field_keeps IsRegister register register_ok its.Of f of.0 of.1, field_keeps IsKey key key_ok its.Key of.0.1 k.0 k.1, optional_keeps IsReceiver receiver receiver_ok its.To k.0.1 to.0 to.1)

set_ok : (f : Fields) (s : Step) → set_step f ≡ Ok s → IsStep s
unfolding set_step
set_ok f s e =
    let of = bind_ok (read_field its.Of register f) _ s e in
    let k = bind_ok (read_field its.Key key of.0.1) _ s of.2 in
    let value = bind_ok (read_field its.Value operand_read k.0.1) _ s k.2 in
    let user = bind_ok (read_field_or its.User false truth value.0.1) _ s value.2 in
    let others = bind_ok (ends (user.0.1)) _ s user.2 in
    let same : step.Set of.0.0 k.0.0 value.0.0 user.0.0 ≡ s = let kept = others.2 in cc in
    rw (← same) (field_keeps IsRegister register register_ok its.Of f of.0 of.1, field_keeps IsKey key key_ok its.Key of.0.1 k.0 k.1, field_keeps IsOperand operand_read operand_ok its.Value k.0.1 value.0 value.1)

define_ok : (f : Fields) (s : Step) → define_step f ≡ Ok s → IsStep s
unfolding define_step
define_ok f s e =
    let of = bind_ok (read_field its.Of register f) _ s e in
    let k = bind_ok (read_field its.Key key of.0.1) _ s of.2 in
    let value = bind_ok (read_optional its.Value operand_read k.0.1) _ s k.2 in
    let writable = bind_ok (read_optional its.Writable truth value.0.1) _ s value.2 in
    let enumerable = bind_ok (read_optional its.Enumerable truth writable.0.1) _ s writable.2 in
    let configurable = bind_ok (read_optional its.Configurable truth enumerable.0.1) _ s enumerable.2 in
    let others = bind_ok (ends (configurable.0.1)) _ s configurable.2 in
    let same : step.Define of.0.0 k.0.0 value.0.0 writable.0.0 enumerable.0.0 configurable.0.0 ≡ s = ap (read_or s) others.2 in
    rw (← same) (field_keeps IsRegister register register_ok its.Of f of.0 of.1, field_keeps IsKey key key_ok its.Key of.0.1 k.0 k.1, optional_keeps IsOperand operand_read operand_ok its.Value k.0.1 value.0 value.1)

call_ok : (f : Fields) (s : Step) → call_step f ≡ Ok s → IsStep s
unfolding call_step
call_ok f s e =
    let of = bind_ok (read_field its.Of register f) _ s e in
    let k = bind_ok (read_field its.Key key of.0.1) _ s of.2 in
    let args = bind_ok (read_field its.Args args_read k.0.1) _ s k.2 in
    let to = bind_ok (read_optional its.To receiver args.0.1) _ s args.2 in
    let user = bind_ok (read_field_or its.User false truth to.0.1) _ s to.2 in
    let others = bind_ok (ends (user.0.1)) _ s user.2 in
    let same : step.Call of.0.0 k.0.0 args.0.0 to.0.0 user.0.0 ≡ s = let kept = others.2 in cc in
    rw (← same) (field_keeps IsRegister register register_ok its.Of f of.0 of.1, field_keeps IsKey key key_ok its.Key of.0.1 k.0 k.1, field_keeps AreArgs args_read args_ok its.Args k.0.1 args.0 args.1, optional_keeps IsReceiver receiver receiver_ok its.To args.0.1 to.0 to.1)

frame_ok : (f : Fields) (s : Step) → frame_step f ≡ Ok s → IsStep s
unfolding frame_step
frame_ok f s e =
    let url = bind_ok (read_optional its.Url text f) _ s e in
    let name = bind_ok (read_optional its.Name text url.0.1) _ s url.2 in
    let sandbox = bind_ok (read_optional its.Sandbox text name.0.1) _ s name.2 in
    let to = bind_ok (read_optional its.To receiver sandbox.0.1) _ s sandbox.2 in
    let others = bind_ok (ends (to.0.1)) _ s to.2 in
    let same : step.Frame url.0.0 name.0.0 sandbox.0.0 to.0.0 ≡ s = let kept = others.2 in cc in
    rw (← same) (optional_keeps IsText text text_ok its.Url f url.0 url.1, optional_keeps IsText text text_ok its.Name url.0.1 name.0 name.1, optional_keeps IsText text text_ok its.Sandbox name.0.1 sandbox.0 sandbox.1, optional_keeps IsReceiver receiver receiver_ok its.To sandbox.0.1 to.0 to.1)

open_ok : (f : Fields) (s : Step) → open_step f ≡ Ok s → IsStep s
unfolding open_step
open_ok f s e =
    let url = bind_ok (read_optional its.Url text f) _ s e in
    let target = bind_ok (read_field_or its.Target (codes "_blank") text url.0.1) _ s url.2 in
    let noopener = bind_ok (read_field_or its.Noopener false truth target.0.1) _ s target.2 in
    let user = bind_ok (read_field_or its.User false truth noopener.0.1) _ s noopener.2 in
    let to = bind_ok (read_optional its.To receiver user.0.1) _ s user.2 in
    let others = bind_ok (ends (to.0.1)) _ s to.2 in
    let same : step.Open url.0.0 target.0.0 noopener.0.0 user.0.0 to.0.0 ≡ s = let kept = others.2 in cc in
    rw (← same) (optional_keeps IsText text text_ok its.Url f url.0 url.1, field_or_keeps IsText text text_ok its.Target (codes "_blank") (lit≤ tt) url.0.1 target.0 target.1, optional_keeps IsReceiver receiver receiver_ok its.To user.0.1 to.0 to.1)

link_ok : (f : Fields) (s : Step) → link_step f ≡ Ok s → IsStep s
unfolding link_step
link_ok f s e =
    let url = bind_ok (read_field its.Url text f) _ s e in
    let target = bind_ok (read_field_or its.Target [] text url.0.1) _ s url.2 in
    let rel = bind_ok (read_field_or its.Rel [] text target.0.1) _ s target.2 in
    let user = bind_ok (read_field_or its.User false truth rel.0.1) _ s rel.2 in
    let others = bind_ok (ends (user.0.1)) _ s user.2 in
    let same : step.Link url.0.0 target.0.0 rel.0.0 user.0.0 ≡ s = let kept = others.2 in cc in
    rw (← same) (field_keeps IsText text text_ok its.Url f url.0 url.1, field_or_keeps IsText text text_ok its.Target [] (lit≤ tt) url.0.1 target.0 target.1, field_or_keeps IsText text text_ok its.Rel [] (lit≤ tt) target.0.1 rel.0 rel.1)

of_ok : (f : Fields) (name : List ℕ) → of_alone f ≡ Ok name → IsRegister name
unfolding of_alone
of_ok f name e =
    let of = bind_ok (read_field its.Of register f) _ name e in
    let others = bind_ok (ends (of.0.1)) _ name of.2 in
    let same : of.0.0 ≡ name = let kept = others.2 in cc in
    rw (← same) (field_keeps IsRegister register register_ok its.Of f of.0 of.1)

of_and_key_ok : (f : Fields) (it : List ℕ × Key) → of_and_key f ≡ Ok it → IsRegister it.0 × IsKey it.1
unfolding of_and_key
of_and_key_ok f it e =
    let of = bind_ok (read_field its.Of register f) _ it e in
    let k = bind_ok (read_field its.Key key of.0.1) _ it of.2 in
    let others = bind_ok (ends (k.0.1)) _ it k.2 in
    let same : (of.0.0, k.0.0) ≡ it = let kept = others.2 in cc in
    rw (← same) (field_keeps IsRegister register register_ok its.Of f of.0 of.1, field_keeps IsKey key key_ok its.Key of.0.1 k.0 k.1)

index_alone_ok : (f : Fields) (index : ℕ) → index_alone f ≡ Ok index → IsIndex index
unfolding index_alone
index_alone_ok f n e =
    let index = bind_ok (read_field its.Index index_read f) _ n e in
    let others = bind_ok (ends (index.0.1)) _ n index.2 in
    let same : index.0.0 ≡ n = let kept = others.2 in cc in
    rw (← same) (field_keeps IsIndex index_read index_ok its.Index f index.0 index.1)

-- a step of the object alone, or of the object and a key

of_step_ok : (make : List ℕ → Step) (f : Fields) (s : Step) → ((name : List ℕ) → IsRegister name → IsStep (make name)) → (of_alone f >>= λ of. Ok (make of)) ≡ Ok s → IsStep s
of_step_ok make f s fine e =
    let of = bind_ok (of_alone f) _ s e in
    let same : make of.0 ≡ s = let kept = of.2 in cc in
    rw (← same) (fine of.0 (of_ok f of.0 of.1))

key_step_ok : (make : List ℕ → Key → Step) (f : Fields) (s : Step) → ((name : List ℕ) (k : Key) → IsRegister name × IsKey k → IsStep (make name k)) → (of_and_key f >>= λ it. Ok (make it.0 it.1)) ≡ Ok s → IsStep s
key_step_ok make f s fine e =
    let it = bind_ok (of_and_key f) _ s e in
    let same : make it.0.0 it.0.1 ≡ s = let kept = it.2 in cc in
    rw (← same) (fine it.0.0 it.0.1 (of_and_key_ok f it.0 it.1))

sync_ok : (f : Fields) (s : Step) → (ends f >>= λ _. Ok step.Sync) ≡ Ok s → IsStep s
sync_ok f s e =
    let others = bind_ok (ends f) _ s e in
    let same : step.Sync ≡ s = let kept = others.2 in cc in
    rw (← same) tt

drop_ok : (f : Fields) (s : Step) → (index_alone f >>= λ index. Ok (step.Drop index)) ≡ Ok s → IsStep s
drop_ok f s e =
    let index = bind_ok (index_alone f) _ s e in
    let same : step.Drop index.0 ≡ s = let kept = index.2 in cc in
    rw (← same) (index_alone_ok f index.0 index.1)

by_ok : (name : OpName) (f : Fields) (s : Step) → step_by name f ≡ Ok s → IsStep s
unfolding step_by
by_ok op.Let f s e = let_ok f s e
by_ok op.Get f s e = get_ok f s e
by_ok op.Has f s e = key_step_ok (λ of k. step.Has of k) f s (λ _ _ fine. fine) e
by_ok op.Describe f s e = key_step_ok (λ of k. step.Describe of k) f s (λ _ _ fine. fine) e
by_ok op.Keys f s e = of_step_ok (λ of. step.Keys of) f s (λ _ fine. fine) e
by_ok op.Proto f s e = of_step_ok (λ of. step.Proto of) f s (λ _ fine. fine) e
by_ok op.SetProto f s e = of_step_ok (λ of. step.SetProto of) f s (λ _ fine. fine) e
by_ok op.Extensible f s e = of_step_ok (λ of. step.Extensible of) f s (λ _ fine. fine) e
by_ok op.Prevent f s e = of_step_ok (λ of. step.Prevent of) f s (λ _ fine. fine) e
by_ok op.Set f s e = set_ok f s e
by_ok op.Define f s e = define_ok f s e
by_ok op.Delete f s e = key_step_ok (λ of k. step.Delete of k) f s (λ _ _ fine. fine) e
by_ok op.Call f s e = call_ok f s e
by_ok op.Sync f s e = sync_ok f s e
by_ok op.Frame f s e = frame_ok f s e
by_ok op.Drop f s e = drop_ok f s e
by_ok op.Open f s e = open_ok f s e
by_ok op.Link f s e = link_ok f s e
by_ok op.Domain f s e = absurd (let bad : ⊥ = cc in bad)

built_ok : (a s : Step) → built_step a ≡ Ok s → (a ≡ s) × (is_built a ≡ true)
unfolding built_step
built_ok a s e =
    let fits = then_ok (is_built a) (Ok a) _ s e in
    ((let kept = fits.1 in cc), fits.0)

step_ok : (j : Json) (s : Step) → step_read j ≡ Ok s → IsStep s × (is_built s ≡ true)
unfolding step_read
step_ok j s e =
    let object = bind_ok (fields_of j) _ s e in
    let name = bind_ok (read_field its.Op op_read object.0) _ s object.2 in
    let read = bind_ok (step_by name.0.0 name.0.1) _ s name.2 in
    let same = built_ok read.0 s read.2 in
    rw (← same.0) (by_ok name.0.0 name.0.1 read.0 read.1, same.1)

-- SCRIPTS AND HANDLERS

abbrev AreFine : List Step → Type 0
AreFine found = All IsStep found × All IsBuilt found

one_more : (before : List Step) (j : Json) (s : Step) → AreFine before → step_read j ≡ Ok s → AreFine (before ++ s ∷ [])
one_more before j s fine e =
    let read = step_ok j s e in
    (All-push IsStep before s fine.0 read.0, All-push IsBuilt before s fine.1 read.1)

pub steps_ok : (j : Json) (found : List Step) → list_of 0 most_steps (λ _. step_read) j ≡ Ok found → AreSteps found
steps_ok j found e =
    let read = list_ok 0 most_steps (λ _. step_read) j found e in
    let fine = each_keeps AreFine (λ _. step_read) one_more [] read.items.0 found (All-nil IsStep, All-nil IsBuilt) read.items.1 in
    record { few = read.at_most; all = fine.0; built = fine.1 }

pub no_steps : AreSteps []
no_steps = record { few = lit≤ tt; all = All-nil IsStep; built = All-nil IsBuilt }
