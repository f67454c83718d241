-- Documents that set their domain: a page of x.a.test frames one of y.a.test, and then each takes the domain a.test.
use Prim.{tt}
use Rattle.std.specs.Prelude.{◌≡◌, refl, ℕ, List, [], ◌∷◌, Some, None, true, false, codes}
use Rattle.origin_core.specs.Flags.{flags_of, flags_sum}
use Rattle.origin_core.specs.declared.origin.Origin.{Origin}
use Rattle.tree_log.specs.declared.entry.Entry.{Entry}
use Rattle.tree_log.specs.declared.entry.What.TheVariants as what
use Rattle.tree_log.specs.Log.{entry_at, prefix}
use Rattle.tree_log.specs.Tree.{tree_of, domain_of, same_domain, is_active, is_discarded, chain, children_of, parent_of, top_level_of, ancestors, group_of}
use Rattle.tree_log.specs.Admits.{admits, AreAdmitted}
use Rattle.tree_log.specs.NamedChildren.{child_named}
use Rattle.tree_log.specs.Urls.{url_of}
use Rattle.window_props.specs.declared.key.Key.TheVariants as key
use Rattle.window_props.specs.Keys.{array_index, index_of, same_key}
use Rattle.window_props.specs.Platform.{spelled, named, platform, made_by_platform}
use Rattle.window_props.specs.Cross.{listed, cross_named, made_for_others, is_fallback}
use Rattle.window_props.specs.History.{store_of}
use Rattle.agent_terms.specs.declared.outcome.Outcome.{Outcome}
use Rattle.agent_terms.specs.declared.outcome.Outcome.TheVariants as outcome
use Rattle.agent_terms.specs.declared.outcome.Rule.TheVariants.{S1}
use Rattle.object_access.specs.Values.{text}
use Rattle.object_access.specs.Access.{got, own_property, foreign_property}
use Rattle.object_access.specs.WindowAccess.{window, window_of, window_value}
use Rattle.object_access.specs.StepAnswer.{first_stores}
use Rattle.agent_terms.specs.declared.request.Request.{Request}
use Rattle.agent_terms.specs.declared.request.Request.TheVariants as ask
use Rattle.agent_terms.specs.declared.request.ReplyOutcome.TheVariants as reply
use Rattle.agent_terms.specs.declared.session.Page.{Page}
use Rattle.agent_terms.specs.declared.session.Session.{Session}
use Rattle.agent_terms.specs.declared.step.Step.{Step}
use Rattle.agent_terms.specs.declared.step.Step.TheVariants as step
use Rattle.coordinator_rules.specs.NextTask.{next_task, task_entry}
use Rattle.coordinator_rules.specs.Decision.{Decision, one, by, decide, exchange, asked_decision, end_of, rules_of}
use Rattle.agent_rows.specs.Logs.{site, load, start}

-- THE SESSION

abbrev pub x_url : List ℕ
x_url = codes "https://x.a.test/"

abbrev pub y_url : List ℕ
y_url = codes "https://y.a.test/"

abbrev pub x_test : Origin
x_test = site (codes "x.a.test")

abbrev pub y_test : Origin
y_test = site (codes "y.a.test")

abbrev pub page : List ℕ → List Step → Page
page url script = record { url = url; script = script; handler = [] }

-- one renderer, and no public suffixes
abbrev pub pages : Session
pages = record {
  renderers = 1;
  suffixes = [];
  start = x_url ∷ [];
  order = [];
  lose = [];
  pages =
      page x_url (step.Frame (Some y_url) None None None ∷ step.Domain (codes "a.test") ∷ [])
      ∷ page y_url (step.Domain (codes "A.test") ∷ [])
      ∷ [];
}

-- THE LOG, a part at a time, the newest entry first

-- the start window n0, and its document d1
abbrev pub opened : List Entry
opened = start 0 0 0 (load 1 0 x_test x_url) ∷ []

abbrev pub with_x : List Entry
with_x = task_entry 0 (what.Commit 0 1 0) ∷ opened

-- d1 makes the frame n1, which loads d3, and sets its domain
abbrev pub framed_y : List Entry
framed_y = by 0 1 (what.Frame 1 2 0 x_test [] 0 (Some (load 3 0 y_test y_url))) ∷ with_x

abbrev pub x_has_set : List Entry
x_has_set = by 0 1 (what.Domain 1 (codes "a.test")) ∷ framed_y

-- and so does d3, once it is loaded
abbrev pub with_y : List Entry
with_y = task_entry 0 (what.Commit 1 3 2) ∷ x_has_set

abbrev pub both_have_set : List Entry
both_have_set = by 0 3 (what.Domain 3 (codes "a.test")) ∷ with_y

pub both_admitted : AreAdmitted both_have_set
unfolding admits tree_of is_active is_discarded chain
both_admitted = (refl, (refl, (refl, (refl, (refl, (refl, tt))))))

-- WHAT IS DECIDED

-- what a request of the renderer comes to
unfoldable pub answered : List Entry → Request → Decision
unfolding exchange asked_decision decide end_of next_task tree_of is_active is_discarded chain children_of top_level_of ancestors group_of
answered log request = exchange (rules_of pages) log 0 request

pub x_sets : answered framed_y (ask.Domain 1 (codes "a.test")) ≡ one 0 1 (what.Domain 1 (codes "a.test")) reply.Done
unfolding answered
x_sets = refl

-- the value counts in lower case
pub y_sets : answered with_y (ask.Domain 3 (codes "A.test")) ≡ one 0 3 (what.Domain 3 (codes "a.test")) reply.Done
unfolding answered
y_sets = refl

pub third_place : entry_at both_have_set 3 ≡ Some (by 0 1 (what.Domain 1 (codes "a.test")))
unfolding entry_at prefix
third_place = refl

pub fifth_place : entry_at both_have_set 5 ≡ Some (by 0 3 (what.Domain 3 (codes "a.test")))
unfolding entry_at prefix
fifth_place = refl

-- a document may set its own host, and not go back to it
pub sets_own_host : answered framed_y (ask.Domain 1 (codes "x.a.test")) ≡ one 0 1 (what.Domain 1 (codes "x.a.test")) reply.Done
unfolding answered
sets_own_host = refl

pub goes_not_back : answered x_has_set (ask.Domain 1 (codes "x.a.test")) ≡ one 0 1 what.Sync (reply.Security 11)
unfolding answered
goes_not_back = refl

-- nor take the host of another, or a public suffix
pub refuses_other_host : answered framed_y (ask.Domain 1 (codes "y.a.test")) ≡ one 0 1 what.Sync (reply.Security 11)
unfolding answered
refuses_other_host = refl

pub refuses_suffix : answered framed_y (ask.Domain 1 (codes "test")) ≡ one 0 1 what.Sync (reply.Security 11)
unfolding answered
refuses_suffix = refl

-- a sandbox sets the flag for domains, whatever it allows
abbrev pub words : List ℕ
words = codes "allow-scripts allow-same-origin"

abbrev pub sandboxed_y : List Entry
sandboxed_y = task_entry 0 (what.Commit 1 3 2) ∷ by 0 1 (what.Frame 1 2 0 x_test [] (flags_of words) (Some (load 3 0 y_test y_url))) ∷ with_x

pub sandboxed_admitted : AreAdmitted sandboxed_y
unfolding admits tree_of is_active is_discarded chain
sandboxed_admitted = (refl, (refl, (refl, (refl, tt))))

pub refuses_sandboxed : answered sandboxed_y (ask.Domain 3 (codes "a.test")) ≡ one 0 3 what.Sync (reply.Security 9)
unfolding answered flags_sum
refuses_sandboxed = refl

-- the initial document of a start has an origin of its own, and so no effective domain
pub refuses_initial : answered opened (ask.Domain 0 (codes "a.test")) ≡ one 0 0 what.Sync (reply.Security 10)
unfolding answered
refuses_initial = refl

-- WHO IS SAME ORIGIN-DOMAIN

-- neither has set a domain, one has, both have
pub apart_at_first : same_domain (tree_of framed_y) 1 3 ≡ false
unfolding tree_of
apart_at_first = refl

pub apart_with_one : same_domain (tree_of with_y) 1 3 ≡ false
unfolding tree_of
apart_with_one = refl

pub together_with_both : same_domain (tree_of both_have_set) 1 3 ≡ true
unfolding tree_of
together_with_both = refl

-- the frame's initial document has the origin of d1, but not its domain
pub apart_from_initial : same_domain (tree_of both_have_set) 1 2 ≡ false
unfolding tree_of
apart_from_initial = refl

pub initial_has_none : domain_of (tree_of both_have_set) 2 ≡ None
unfolding tree_of
initial_has_none = refl

-- WHAT THE FRAME'S DOCUMENT GETS

-- at a key of the window n0, with the properties that the platform made
unfoldable pub y_gets : List Entry → List ℕ → Outcome
unfolding window_of window_value got own_property foreign_property store_of platform made_by_platform named spelled same_key array_index index_of listed cross_named made_for_others is_fallback tree_of url_of chain is_discarded is_active children_of parent_of top_level_of child_named
y_gets log name = got (window (tree_of log) (url_of log) 3 0) (first_stores (window (tree_of log) (url_of log) 3 0).object) (key.Text name)

-- the name of the other window is refused until both have set the domain
pub refuses_name : y_gets with_y (codes "name") ≡ outcome.Security S1
unfolding y_gets
refuses_name = refl

pub gets_name : y_gets both_have_set (codes "name") ≡ outcome.Value (text [])
unfolding y_gets
gets_name = refl
