-- What a step asks for is asked by its document.
use Rattle.std.proofs.Common.{◌≡◌, ℕ, List, Option, Some, None, Bool, false, refl}
use Rattle.std.specs.Prelude.{[], Result, Ok, Err, unwrap_or, slice_get}
use Rattle.std.specs.Option.{option_map_or}
use Rattle.origin_core.specs.Flags.{flags_of}
use Rattle.origin_core.specs.declared.page.UrlError.{UrlError}
use Rattle.origin_core.specs.declared.page.UrlError.TheVariants as url
use Rattle.tree_log.specs.Tree.{children_of}
use Rattle.agent_terms.specs.declared.step.Step.{Step}
use Rattle.agent_terms.specs.declared.step.Step.TheVariants as step
use Rattle.agent_terms.specs.declared.act.Performed.{Performed}
use Rattle.agent_terms.specs.declared.act.Performed.TheVariants.{Answer, Ask}
use Rattle.agent_terms.specs.declared.outcome.Outcome.{Outcome}
use Rattle.agent_terms.specs.declared.outcome.Outcome.TheVariants as outcome
use Rattle.agent_terms.specs.declared.outcome.Ask as wish
use Rattle.agent_terms.specs.declared.outcome.Ask.TheVariants as wish_of
use Rattle.agent_terms.specs.declared.request.Request.{Request}
use Rattle.object_access.specs.Access.{Seen}
use Rattle.coordinator_rules.specs.Decision.{asker_of}
use Rattle.object_access.specs.StepAnswer.{Sight, request_for, performed, on_object, if_any, read_at, frame_at, frame_step, open_at, open_step, link_at, gives_no_opener, drop_step, perform}
use Rattle.agent_laws.specs.Actors.{has_no_asker}

-- the request is of document d, and not for a task
pub record IsOf (d : ℕ) (q : Request) : Type 0 where
  pub asker : asker_of q ≡ d
  pub other : has_no_asker q ≡ false

-- what is asked, if anything, is asked by document d
abbrev pub IsAskedBy : ℕ → Performed → Type 0
IsAskedBy d (Answer o) = Unit {0}
IsAskedBy d (Ask q) = IsOf d q

request_is_of : (d : ℕ) (user : Bool) (a : wish.Ask) → IsOf d (request_for d user a)
unfolding has_no_asker
request_is_of d user (wish_of.Go doc page) = record { asker = refl; other = refl }
request_is_of d user (wish_of.Name doc name) = record { asker = refl; other = refl }
request_is_of d user (wish_of.Disown doc) = record { asker = refl; other = refl }
request_is_of d user (wish_of.Close doc) = record { asker = refl; other = refl }
request_is_of d user (wish_of.Post doc target body) = record { asker = refl; other = refl }

performed_by : (d : ℕ) (user : Bool) (o : Outcome) → IsAskedBy d (performed d user o)
performed_by d user (outcome.Ask a) = request_is_of d user a
performed_by d user o = tt

object_by : (s : Sight) (d : ℕ) (user : Bool) (of : List ℕ) (f : Seen → Outcome) → IsAskedBy d (on_object s d user of f)
unfolding on_object
object_by s d user of f = performed_by d user _

frame_by : (d : ℕ) (name : List ℕ) (flags : ℕ) (read : Result (List ℕ) UrlError) → IsAskedBy d (frame_at d name flags read)
unfolding has_no_asker
frame_by d name flags (Ok page) = record { asker = refl; other = refl }
frame_by d name flags (Err url.SchemeOut) = tt
frame_by d name flags (Err _) = record { asker = refl; other = refl }

framed_by : (s : Sight) (d : ℕ) (name : List ℕ) (flags : ℕ) (text : Option (List ℕ)) → IsAskedBy d (frame_step s d name flags text)
unfolding frame_step has_no_asker
framed_by s d name flags None = record { asker = refl; other = refl }
framed_by s d name flags (Some text) = frame_by d name flags (read_at s d text)

open_by : (d : ℕ) (target : List ℕ) (noopener user : Bool) (read : Result (List ℕ) UrlError) → IsAskedBy d (open_at d target noopener user read)
unfolding has_no_asker
open_by d target noopener user (Ok page) = record { asker = refl; other = refl }
open_by d target noopener user (Err url.SchemeOut) = tt
open_by d target noopener user (Err _) = tt

opened_by : (s : Sight) (d : ℕ) (target : List ℕ) (noopener user : Bool) (text : Option (List ℕ)) → IsAskedBy d (open_step s d target noopener user text)
unfolding open_step has_no_asker
opened_by s d target noopener user None = record { asker = refl; other = refl }
opened_by s d target noopener user (Some text) = open_by d target noopener user (read_at s d text)

link_by : (d : ℕ) (target : List ℕ) (noopener user : Bool) (read : Result (List ℕ) UrlError) → IsAskedBy d (link_at d target noopener user read)
unfolding has_no_asker
link_by d target noopener user (Ok page) = record { asker = refl; other = refl }
link_by d target noopener user (Err url.SchemeOut) = tt
link_by d target noopener user (Err _) = tt

dropped_by : (d : ℕ) (nav : Option ℕ) → IsAskedBy d (drop_step d nav)
unfolding has_no_asker
dropped_by d None = tt
dropped_by d (Some nav) = record { asker = refl; other = refl }

pub asked_by : (s : Sight) (d : ℕ) (does : Step) → IsAskedBy d (perform s d does)
unfolding perform has_no_asker
asked_by s d (step.Let to given) = tt
asked_by s d (step.Get of key to) = object_by s d false of _
asked_by s d (step.Has of key) = object_by s d false of _
asked_by s d (step.Describe of key) = object_by s d false of _
asked_by s d (step.Keys of) = object_by s d false of _
asked_by s d (step.Proto of) = object_by s d false of _
asked_by s d (step.SetProto of) = object_by s d false of _
asked_by s d (step.Extensible of) = object_by s d false of _
asked_by s d (step.Prevent of) = object_by s d false of _
asked_by s d (step.Set of key given user) = object_by s d user of _
asked_by s d (step.Define of key given writable enumerable configurable) = object_by s d false of _
asked_by s d (step.Delete of key) = object_by s d false of _
asked_by s d (step.Call of key args to user) = object_by s d user of _
asked_by s d step.Sync = record { asker = refl; other = refl }
asked_by s d (step.Domain text) = record { asker = refl; other = refl }
asked_by s d (step.Frame text name sandbox to) = framed_by s d (unwrap_or name []) (option_map_or flags_of sandbox 0) (if_any text)
asked_by s d (step.Drop index) = dropped_by d (slice_get (children_of s.tree d) index)
asked_by s d (step.Open text target noopener user to) = opened_by s d target noopener user (if_any text)
asked_by s d (step.Link text target rel user) = link_by d target (gives_no_opener rel target) user (read_at s d text)
