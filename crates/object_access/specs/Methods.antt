-- A call of what stands under a key, and what the platform's methods do (HTML Standard, 7.2.2.1, close;
-- 6.6.6, focus and blur; 9.3.3, postMessage; 7.2.4, assign and replace).
use Rattle.std.specs.Prelude.{ℕ, List, [], ◌∷◌, ◌&&◌, Option, Some, None, Result, Ok, Err, find, option_and_then, bytes_eq, codes, slice_get, if◌then◌else◌}
use Rattle.plain_data.specs.declared.data.Data.{Data, out-Data}
use Rattle.plain_data.specs.declared.data.Data.TheOpen.{Data-F}
use Rattle.object_access.specs.Names.{Origin, UrlError, Key, Value, Object, Outcome, Ask, Target}
use Rattle.origin_core.specs.Origin.{origin_read}
use Rattle.window_props.specs.declared.value.Method.{Method}
use Rattle.window_props.specs.Values.{same_method, same_object}
use Rattle.window_props.specs.Platform.{named, method_of}
use Rattle.window_props.specs.History.{Store}
use Rattle.tree_log.specs.Tree.{Tree, origin_of}
use Rattle.object_access.specs.Values.{undefined, text_of}
use Rattle.object_access.specs.Access.{Seen, got}
use Rattle.object_access.specs.Going.{go, or_else_outcome, with_text}

-- Messages: the text of a record's field `targetOrigin`; `/` where it is missing or undefined
abbrev pub text_of_field : Option (List ℕ × Data) → Option (List ℕ)
text_of_field None = Some (codes "/")
text_of_field (Some (name, Data.Undefined)) = Some (codes "/")
text_of_field (Some (name, d)) = text_of (Value.Plain d)

-- the text of the second argument of postMessage: as a target, or as options; an object of the platform has none
abbrev pub text_of_options : Data → Data-F Data → Option (List ℕ)
text_of_options d Data-F.Undefined = Some (codes "/")
text_of_options d Data-F.Null = Some (codes "/")
text_of_options d (Data-F.List items) = Some (codes "/")
text_of_options d (Data-F.Record fields) = text_of_field (find (λ field. bytes_eq field.0 (codes "targetOrigin")) fields)
text_of_options d _ = text_of (Value.Plain d)

unfoldable pub target_text : Option Value → Option (List ℕ)
target_text None = Some (codes "/")
target_text (Some (Value.Plain d)) = text_of_options d (out-Data d)
target_text (Some v) = None

abbrev pub target_of_url : Result (Option Origin) UrlError → Option Target
target_of_url (Err e) = None
target_of_url (Ok None) = Some Target.Never
target_of_url (Ok (Some origin)) = Some (Target.Origin origin)

-- the origins that a target's text means: `/` that of the sender, `*` any, else that of the URL which it is
unfoldable pub target_of : Origin → List ℕ → Option Target
target_of sender text =
    if bytes_eq text (codes "/") then Some (Target.Origin sender)
    else if bytes_eq text (codes "*") then Some Target.Any
    else target_of_url (origin_read text)

abbrev pub posted_clone : ℕ → Target → Value → Outcome
posted_clone doc to (Value.Plain d) = Outcome.Ask (Ask.Post doc to d)
posted_clone doc to _ = Outcome.DataClone

abbrev pub posted_to : ℕ → Value → Option Target → Outcome
posted_to doc v None = Outcome.Syntax
posted_to doc v (Some to) = posted_clone doc to v

-- postMessage to the Window of a document
unfoldable pub posted : Origin → ℕ → List Value → Outcome
posted sender doc [] = Outcome.TypeFault
posted sender doc (v ∷ more) = elim (target_text (slice_get more 0)) [ None ↦ Outcome.TypeFault | Some text ↦ posted_to doc v (target_of sender text) ]

-- Going: assign and replace on the Location of a document
unfoldable pub sent : Tree → (ℕ → List ℕ) → ℕ → ℕ → List Value → Outcome
sent t urls asker doc [] = Outcome.TypeFault
sent t urls asker doc (v ∷ more) = with_text v (λ text. or_else_outcome (Outcome.Value undefined) (go t urls asker doc text))

-- Calls: a method of that object and of that name
abbrev pub if_own : Object → Object → Method → Option Method → Option Method
if_own o of m None = None
if_own o of m (Some own) = if same_method m own && same_object of o then Some own else None

-- the object's own built-in of that key, if the value is it
unfoldable pub built_in : Object → Key → Value → Option Method
built_in o key (Value.Function m of) = if_own o of m (option_and_then method_of (named o key))
built_in o key _ = None

abbrev pub run : Tree → (ℕ → List ℕ) → ℕ → Object → Method → List Value → Outcome
run t urls asker (Object.Window d) Method.Close args = Outcome.Ask (Ask.Close d)
run t urls asker (Object.Window d) Method.Focus args = Outcome.Value undefined
run t urls asker (Object.Window d) Method.Blur args = Outcome.Value undefined
run t urls asker (Object.Window d) Method.PostMessage args = posted (origin_of t asker) d args
run t urls asker (Object.Location d) Method.Assign args = sent t urls asker d args
run t urls asker (Object.Location d) Method.Replace args = sent t urls asker d args
run t urls asker _ _ args = Outcome.TypeFault

abbrev pub run_found : Tree → (ℕ → List ℕ) → ℕ → Object → List Value → Option Method → Outcome
run_found t urls asker o args None = Outcome.TypeFault
run_found t urls asker o args (Some m) = run t urls asker o m args

abbrev pub run_got : Tree → (ℕ → List ℕ) → ℕ → Object → Key → List Value → Outcome → Outcome
run_got t urls asker o key args (Outcome.Value v) = run_found t urls asker o args (built_in o key v)
run_got t urls asker o key args other = other

-- a call of the method under the key: any other value there gives a TypeError
unfoldable pub called : Tree → (ℕ → List ℕ) → ℕ → Seen → Store → Key → List Value → Outcome
called t urls asker s props key args = run_got t urls asker s.object key args (got s props key)
