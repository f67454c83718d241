-- A verdict is the ruling that the outcome shows.
use Rattle.std.proofs.Common.{◌≡◌, ℕ, List, Bool, true, false, Option, Some, None, Result, Ok, Err, if◌then◌else◌, refl, is_none}
use Rattle.origin_core.specs.Page.{read_page}
use Rattle.window_props.specs.declared.descriptor.Body.{Body}
use Rattle.window_props.specs.declared.descriptor.Body.TheVariants as body
use Rattle.window_props.specs.declared.descriptor.Descriptor.{Descriptor}
use Rattle.window_props.specs.declared.props.SetAnswer.{SetAnswer}
use Rattle.window_props.specs.Ordinary.{Define, Set, Delete}
use Rattle.window_props.specs.History.{Store, answer_in}
use Rattle.window_props.specs.Platform.{named}
use Rattle.agent_terms.specs.declared.outcome.Ruling.TheVariants.{Allowed, Refused}
use Rattle.agent_terms.specs.declared.outcome.Op.TheVariants as op
use Rattle.tree_log.specs.Tree.{Tree, is_active}
use Rattle.object_access.specs.Names.{UrlError, Key, Value, Change, Object, Platform, Outcome, Rule, S3, S4}
use Rattle.object_access.specs.Values.{text_of}
use Rattle.object_access.specs.Going.{go, gone_to, set_href, or_else_outcome}
use Rattle.object_access.specs.Access.{Seen, got, got_own, got_foreign, own_property, foreign_property, has, has_own, has_foreign, described, described_foreign, set, set_foreign, settled_own, defined, deleted, truth_of, keys, prototype, call_of}
use Rattle.object_access.specs.WindowAccess.{window, window_of, window_set, set_by}
use Rattle.object_access.specs.LocationAccess.{location, location_set}
use Rattle.object_access.specs.Verdict.{ruled, ruled_get, ruled_set, verdict, ruling_of, TellsOutcomes}

get_of_body : (s : Seen) (key : Key) (b : Body)
    → elim b [ body.Value _ _ ↦ Allowed | body.Accessor get _ ↦ if get then Allowed else Refused S3 ]
    ≡ ruling_of (elim b [ body.Value v _ ↦ Outcome.Value v | body.Accessor get _ ↦ if get then Outcome.Value (s.getter key) else Outcome.Security S3 ])
get_of_body s key (body.Value v w) = refl
get_of_body s key (body.Accessor true set) = refl
get_of_body s key (body.Accessor false set) = refl

get_found : (s : Seen) (key : Key) (found : Result Descriptor Rule) → ruled found ruled_get ≡ ruling_of (got_foreign s key found)
get_found s key (Err rule) = refl
get_found s key (Ok d) = get_of_body s key d.body

get_tells : (s : Seen) (props : Store) (key : Key) → verdict s op.Get key ≡ ruling_of (got s props key)
unfolding verdict got
get_tells s props key = by s.own
  where
    by : (own : Bool) → (if own then Allowed else ruled (foreign_property s key) ruled_get)
        ≡ ruling_of (if own then Outcome.Value (got_own s key (own_property s props key)) else got_foreign s key (foreign_property s key))
    by true = refl
    by false = get_found s key (foreign_property s key)

has_found : (found : Result Descriptor Rule) → ruled found (λ d. Allowed) ≡ ruling_of (has_foreign found)
has_found (Err rule) = refl
has_found (Ok d) = refl

has_tells : (s : Seen) (props : Store) (key : Key) → verdict s op.Has key ≡ ruling_of (has s props key)
unfolding verdict has
has_tells s props key = by s.own
  where
    by : (own : Bool) → (if own then Allowed else ruled (foreign_property s key) (λ d. Allowed))
        ≡ ruling_of (if own then Outcome.Truth (has_own s key (own_property s props key)) else has_foreign (foreign_property s key))
    by true = refl
    by false = has_found (foreign_property s key)

describe_found : (found : Result Descriptor Rule) → ruled found (λ d. Allowed) ≡ ruling_of (described_foreign found)
describe_found (Err rule) = refl
describe_found (Ok d) = refl

describe_tells : (s : Seen) (props : Store) (key : Key) → verdict s op.Describe key ≡ ruling_of (described s props key)
unfolding verdict described
describe_tells s props key = by s.own
  where
    by : (own : Bool) → (if own then Allowed else ruled (foreign_property s key) (λ d. Allowed))
        ≡ ruling_of (if own then Outcome.Own (own_property s props key) else described_foreign (foreign_property s key))
    by true = refl
    by false = describe_found (foreign_property s key)

-- a setter that refuses nothing
abbrev Allows : Seen → Type 0
Allows s = (key : Key) (v : Value) → Allowed ≡ ruling_of (s.setter key v)

set_of_body : (s : Seen) (key : Key) (v : Value) → Allows s → (b : Body)
    → elim b [ body.Value _ _ ↦ Refused S4 | body.Accessor _ set ↦ if set then Allowed else Refused S4 ]
    ≡ ruling_of (elim b [ body.Value _ _ ↦ Outcome.Security S4 | body.Accessor _ set ↦ if set then s.setter key v else Outcome.Security S4 ])
set_of_body s key v h (body.Value x w) = refl
set_of_body s key v h (body.Accessor get true) = h key v
set_of_body s key v h (body.Accessor get false) = refl

set_found : (s : Seen) (key : Key) (v : Value) → Allows s → (found : Result Descriptor Rule) → ruled found ruled_set ≡ ruling_of (set_foreign s key v found)
set_found s key v h (Err rule) = refl
set_found s key v h (Ok d) = set_of_body s key v h d.body

set_settled : (s : Seen) (key : Key) (v : Value) → Allows s → (a : SetAnswer) → Allowed ≡ ruling_of (settled_own s key v a)
set_settled s key v h (SetAnswer.Truth b) = refl
set_settled s key v h SetAnswer.Setter = h key v
set_settled s key v h SetAnswer.TypeFault = refl

set_tells : (s : Seen) → Allows s → (props : Store) (key : Key) (v : Value) → verdict s op.Set key ≡ ruling_of (set s props key v)
unfolding verdict set
set_tells s h props key v = by s.own (s.index key)
  where
    by : (own : Bool) (i : Option ℕ) → (if own then Allowed else ruled (foreign_property s key) ruled_set)
        ≡ ruling_of (if own then elim i [ Some n ↦ Outcome.Truth false | None ↦ settled_own s key v (answer_in props (call_of key (Set v))) ] else set_foreign s key v (foreign_property s key))
    by true (Some n) = refl
    by true None = set_settled s key v h (answer_in props (call_of key (Set v)))
    by false i = set_found s key v h (foreign_property s key)

truth_allowed : (a : SetAnswer) → Allowed ≡ ruling_of (truth_of a)
truth_allowed (SetAnswer.Truth b) = refl
truth_allowed SetAnswer.Setter = refl
truth_allowed SetAnswer.TypeFault = refl

-- a change of an own object at a key that is no index, and else by itself
change_tells : (own : Bool) (i : Option ℕ) (a : SetAnswer) (at : ℕ → Bool) (rule : Rule)
    → (if own then Allowed else Refused rule) ≡ ruling_of (if own then elim i [ Some n ↦ Outcome.Truth (at n) | None ↦ truth_of a ] else Outcome.Security rule)
change_tells true (Some n) a at rule = refl
change_tells true None a at rule = truth_allowed a
change_tells false i a at rule = refl

define_tells : (s : Seen) (props : Store) (key : Key) (change : Change) → verdict s op.Define key ≡ ruling_of (defined s props key change)
unfolding verdict defined
define_tells s props key change = change_tells s.own (s.index key) (answer_in props (call_of key (Define change))) (λ n. false) _

delete_tells : (s : Seen) (props : Store) (key : Key) → verdict s op.Delete key ≡ ruling_of (deleted s props key)
unfolding verdict deleted
delete_tells s props key = change_tells s.own (s.index key) (answer_in props (call_of key Delete)) (λ n. is_none (s.child n)) _

always : (own : Bool) → (if own then Allowed else Allowed) ≡ Allowed
always true = refl
always false = refl

keys_tells : (s : Seen) (props : Store) (key : Key) → verdict s op.Keys key ≡ ruling_of (keys s props)
unfolding verdict keys
keys_tells s props key = always s.own

prototype_tells : (s : Seen) (key : Key) → verdict s op.Prototype key ≡ ruling_of (prototype s)
unfolding verdict prototype
prototype_tells s key = always s.own

tells : (s : Seen) → Allows s → TellsOutcomes s
tells s h = record {
  get = get_tells s;
  has = has_tells s;
  describe = describe_tells s;
  set = set_tells s h;
  define = define_tells s;
  delete = delete_tells s;
  keys = keys_tells s;
  prototype = prototype_tells s;
}

-- Setters: none of them refuses
text_allows : (o : Option (List ℕ)) (f : List ℕ → Outcome) → ((t : List ℕ) → Allowed ≡ ruling_of (f t)) → Allowed ≡ ruling_of (elim o [ None ↦ Outcome.TypeFault | Some t ↦ f t ])
text_allows None f h = refl
text_allows (Some t) f h = h t

gone_allows : (doc : ℕ) (r : Result (List ℕ) UrlError) → Allowed ≡ ruling_of (gone_to doc r)
gone_allows doc (Ok page) = refl
gone_allows doc (Err UrlError.SchemeOut) = refl
gone_allows doc (Err _) = refl

go_allows : (active : Bool) (doc : ℕ) (r : Result (List ℕ) UrlError) → Allowed ≡ ruling_of (or_else_outcome (Outcome.Truth true) (if active then Some (gone_to doc r) else None))
go_allows true doc r = gone_allows doc r
go_allows false doc r = refl

href_allows : (t : Tree) (urls : ℕ → List ℕ) (asker doc : ℕ) (v : Value) → Allowed ≡ ruling_of (set_href t urls asker doc v)
unfolding go
href_allows t urls asker doc v = text_allows (text_of v) (λ text. or_else_outcome (Outcome.Truth true) (go t urls asker doc text)) (λ text. go_allows (is_active t doc) doc (read_page (Some (urls asker)) text))

window_set_allows : (t : Tree) (urls : ℕ → List ℕ) (asker doc : ℕ) (name : Platform) (v : Value) → Allowed ≡ ruling_of (window_set t urls asker doc name v)
unfolding window_set
window_set_allows t urls asker doc Platform.Location v = href_allows t urls asker doc v
window_set_allows t urls asker doc Platform.Name v = text_allows (text_of v) _ (λ text. refl)
window_set_allows t urls asker doc Platform.Opener v = refl
window_set_allows t urls asker doc _ v = refl

location_set_allows : (t : Tree) (urls : ℕ → List ℕ) (asker doc : ℕ) (name : Platform) (v : Value) → Allowed ≡ ruling_of (location_set t urls asker doc name v)
unfolding location_set
location_set_allows t urls asker doc Platform.Href v = href_allows t urls asker doc v
location_set_allows t urls asker doc _ v = refl

set_by_allows : (name : Option Platform) (f : Platform → Outcome) → ((p : Platform) → Allowed ≡ ruling_of (f p)) → Allowed ≡ ruling_of (set_by name f)
set_by_allows None f h = refl
set_by_allows (Some p) f h = h p

window_allows : (t : Tree) (urls : ℕ → List ℕ) (asker n : ℕ) → Allows (window t urls asker n)
unfolding window_of
window_allows t urls asker n key v =
    let doc : ℕ = (t.nav n).active in
    set_by_allows (named (Object.Window doc) key) (λ name. window_set t urls asker doc name v) (λ name. window_set_allows t urls asker doc name v)

location_allows : (t : Tree) (urls : ℕ → List ℕ) (asker d : ℕ) → Allows (location t urls asker d)
unfolding location
location_allows t urls asker d key v =
    set_by_allows (named (Object.Location d) key) (λ name. location_set t urls asker d name v) (λ name. location_set_allows t urls asker d name v)

pub window_tells : (t : Tree) (urls : ℕ → List ℕ) (asker n : ℕ) → TellsOutcomes (window t urls asker n)
window_tells t urls asker n = tells (window t urls asker n) (window_allows t urls asker n)

pub location_tells : (t : Tree) (urls : ℕ → List ℕ) (asker d : ℕ) → TellsOutcomes (location t urls asker d)
location_tells t urls asker d = tells (location t urls asker d) (location_allows t urls asker d)
