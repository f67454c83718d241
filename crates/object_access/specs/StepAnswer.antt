-- What a step of a document's script is on what its renderer heard: an answer, or a request to the coordinator. The steps
-- are this project's own; what they do is what a script does that has the objects at hand.
use Rattle.std.specs.Prelude.{ℕ, List, [], ◌∷◌, ◌&&◌, ◌||◌, not, Bool, false, Option, Some, None, Result, Ok, Err, map, slice_get, bytes_eq, codes, unwrap_or, if◌then◌else◌}
use Rattle.std.specs.Option.{option_map, option_map_or}
use Rattle.origin_core.specs.Page.{read_page}
use Rattle.origin_core.specs.Flags.{flags_of, has_keyword, is_same_word}
use Rattle.object_access.specs.Names.{UrlError, Key, Value, Object, Change, Step, Performed, Outcome, Ask as Wish, Request}
use Rattle.window_props.specs.Values.{same_object}
use Rattle.window_props.specs.Ordinary.{Act, Define, Set, Delete}
use Rattle.window_props.specs.History.{Store, store_of}
use Rattle.tree_log.specs.Tree.{Tree, nav_of, children_of}
use Rattle.agent_terms.specs.declared.step.Operand.{Operand}
use Rattle.agent_terms.specs.declared.act.Performed.TheVariants.{Answer, Ask}
use Rattle.object_access.specs.Values.{undefined}
use Rattle.object_access.specs.Access as access
use Rattle.object_access.specs.WindowAccess.{window}
use Rattle.object_access.specs.LocationAccess.{location}
use Rattle.object_access.specs.Methods.{called}

-- what a document's step goes by: the tree and the URLs that it may see, the registers of documents, and the properties of objects
pub record Sight : Type 0 where
  pub tree : Tree
  pub urls : ℕ → List ℕ
  pub registers : ℕ → List ℕ → Value
  pub stores : Object → Store

-- Operands: what a register of the document holds; `window` is its own window
unfoldable pub held : Sight → ℕ → List ℕ → Value
held s d name =
    if bytes_eq name (codes "window") then Value.Window (nav_of s.tree d)
    else if bytes_eq name (codes "undefined") then undefined
    else s.registers d name

unfoldable pub operand_value : Sight → ℕ → Operand → Value
operand_value s d (Operand.Register name) = held s d name
operand_value s d (Operand.Plain given) = Value.Plain given

-- the object that a value is, as the document meets it
abbrev pub object_of : Sight → ℕ → Value → Option access.Seen
object_of s d (Value.Window n) = Some (window s.tree s.urls d n)
object_of s d (Value.Location e) = Some (location s.tree s.urls d e)
object_of s d _ = None

-- What is done: a request says who wants it, and whether a person caused it
abbrev pub request_for : ℕ → Bool → Wish → Request
request_for d user (Wish.Go doc page) = Request.Go d doc page user
request_for d user (Wish.Name doc name) = Request.Name d doc name
request_for d user (Wish.Disown doc) = Request.Disown d doc
request_for d user (Wish.Close doc) = Request.Close d doc user
request_for d user (Wish.Post doc target body) = Request.Post d doc target body

abbrev pub performed : ℕ → Bool → Outcome → Performed
performed d user (Outcome.Ask a) = Ask (request_for d user a)
performed d user o = Answer o

-- an operation on the object in a register; where none is, a TypeError
unfoldable pub on_object : Sight → ℕ → Bool → List ℕ → (access.Seen → Outcome) → Performed
on_object s d user of f = performed d user (elim (object_of s d (held s d of)) [ None ↦ Outcome.TypeFault | Some seen ↦ f seen ])

abbrev pub change_of : Sight → ℕ → Option Operand → Option Bool → Option Bool → Option Bool → Change
change_of s d given writable enumerable configurable =
    record { value = option_map (operand_value s d) given; writable = writable; enumerable = enumerable; configurable = configurable }

-- URLs: an empty URL counts as none, in a frame and in an open
abbrev pub if_any : Option (List ℕ) → Option (List ℕ)
if_any None = None
if_any (Some []) = None
if_any (Some (x ∷ xs)) = Some (x ∷ xs)

-- what a URL's text is against the document's own
abbrev pub read_at : Sight → ℕ → List ℕ → Result (List ℕ) UrlError
read_at s d text = read_page (Some (s.urls d)) text

-- a frame whose URL isn't readable loads nothing
abbrev pub frame_at : ℕ → List ℕ → ℕ → Result (List ℕ) UrlError → Performed
frame_at d name flags (Ok page) = Ask (Request.Frame d name flags (Some page))
frame_at d name flags (Err UrlError.SchemeOut) = Answer Outcome.SchemeOut
frame_at d name flags (Err _) = Ask (Request.Frame d name flags None)

unfoldable pub frame_step : Sight → ℕ → List ℕ → ℕ → Option (List ℕ) → Performed
frame_step s d name flags None = Ask (Request.Frame d name flags None)
frame_step s d name flags (Some text) = frame_at d name flags (read_at s d text)

abbrev pub open_at : ℕ → List ℕ → Bool → Bool → Result (List ℕ) UrlError → Performed
open_at d target noopener user (Ok page) = Ask (Request.Open d (Some page) target noopener user)
open_at d target noopener user (Err UrlError.SchemeOut) = Answer Outcome.SchemeOut
open_at d target noopener user (Err _) = Answer Outcome.Syntax

unfoldable pub open_step : Sight → ℕ → List ℕ → Bool → Bool → Option (List ℕ) → Performed
open_step s d target noopener user None = Ask (Request.Open d None target noopener user)
open_step s d target noopener user (Some text) = open_at d target noopener user (read_at s d text)

-- a link whose URL isn't readable does nothing
abbrev pub link_at : ℕ → List ℕ → Bool → Bool → Result (List ℕ) UrlError → Performed
link_at d target noopener user (Ok page) = Ask (Request.Link d page target noopener user)
link_at d target noopener user (Err UrlError.SchemeOut) = Answer Outcome.SchemeOut
link_at d target noopener user (Err _) = Answer (Outcome.Value undefined)

-- whether a link gives no opener, by its relations and its target (HTML Standard, 4.6.4, get an element's noopener)
abbrev pub gives_no_opener : List ℕ → List ℕ → Bool
gives_no_opener rel target =
    has_keyword rel (codes "noopener") || has_keyword rel (codes "noreferrer")
    || (is_same_word (codes "_blank") target && not (has_keyword rel (codes "opener")))

-- The steps: a drop at an index that has no child does nothing
abbrev pub drop_step : ℕ → Option ℕ → Performed
drop_step d None = Answer (Outcome.Value undefined)
drop_step d (Some nav) = Ask (Request.Drop d nav)

-- a step of document d
unfoldable pub perform : Sight → ℕ → Step → Performed
perform s d (Step.Let to given) = Answer (Outcome.Value (operand_value s d given))
perform s d (Step.Get of key to) = on_object s d false of (λ seen. access.got seen (s.stores seen.object) key)
perform s d (Step.Has of key) = on_object s d false of (λ seen. access.has seen (s.stores seen.object) key)
perform s d (Step.Describe of key) = on_object s d false of (λ seen. access.described seen (s.stores seen.object) key)
perform s d (Step.Keys of) = on_object s d false of (λ seen. access.keys seen (s.stores seen.object))
perform s d (Step.Proto of) = on_object s d false of access.prototype
perform s d (Step.SetProto of) = on_object s d false of access.prototype_set
perform s d (Step.Extensible of) = on_object s d false of access.extensible
perform s d (Step.Prevent of) = on_object s d false of access.prevented
perform s d (Step.Set of key given user) = on_object s d user of (λ seen. access.set seen (s.stores seen.object) key (operand_value s d given))
perform s d (Step.Define of key given writable enumerable configurable) =
    on_object s d false of (λ seen. access.defined seen (s.stores seen.object) key (change_of s d given writable enumerable configurable))
perform s d (Step.Delete of key) = on_object s d false of (λ seen. access.deleted seen (s.stores seen.object) key)
perform s d (Step.Call of key args to user) = on_object s d user of (λ seen. called s.tree s.urls d seen (s.stores seen.object) key (map (operand_value s d) args))
perform s d Step.Sync = Ask (Request.Sync d)
perform s d (Step.Frame text name sandbox to) = frame_step s d (unwrap_or name []) (option_map_or flags_of sandbox 0) (if_any text)
perform s d (Step.Drop index) = drop_step d (slice_get (children_of s.tree d) index)
perform s d (Step.Open text target noopener user to) = open_step s d target noopener user (if_any text)
perform s d (Step.Link text target rel user) = link_at d target (gives_no_opener rel target) user (read_at s d text)
perform s d (Step.Domain value) = Ask (Request.Domain d value)

-- Properties afterwards: an act on the object in a register changes that one's
abbrev pub changed_at : Sight → ℕ → List ℕ → Key → Act → Object → Store
changed_at s d of key act =
    elim (object_of s d (held s d of)) [
      | None ↦ s.stores
      | Some seen ↦ λ o. if same_object o seen.object then access.store_left seen (s.stores seen.object) key act else s.stores o
    ]

-- the properties of objects after a step: a set, a define or a delete on one's own object may change them
unfoldable pub step_stores : Sight → ℕ → Step → Object → Store
step_stores s d (Step.Set of key given user) = changed_at s d of key (Set (operand_value s d given))
step_stores s d (Step.Define of key given writable enumerable configurable) = changed_at s d of key (Define (change_of s d given writable enumerable configurable))
step_stores s d (Step.Delete of key) = changed_at s d of key Delete
step_stores s d _ = s.stores

-- before any step
abbrev pub first_stores : Object → Store
first_stores o = store_of o []
