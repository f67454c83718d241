-- A set of `location` that names a document which is no longer active once the coordinator hears of it.
use Rattle.std.specs.Prelude.{◌≡◌, refl, List, ◌∷◌, false, codes}
use Rattle.url.proofs.OnLiterals.{url_on_literals}
use Rattle.window_props.specs.declared.key.Key.TheVariants as key
use Rattle.window_props.specs.declared.platform.Object.TheVariants as object
use Rattle.window_props.specs.Keys.{array_index, index_of, same_key}
use Rattle.window_props.specs.Ordinary.{acted, role_at, set_to}
use Rattle.window_props.specs.Platform.{spelled, named, platform, made_by_platform}
use Rattle.window_props.specs.Cross.{listed, cross_named, made_for_others, is_fallback}
use Rattle.window_props.specs.History.{store_of}
use Rattle.tree_log.specs.declared.entry.Entry.{Entry}
use Rattle.tree_log.specs.declared.entry.What.TheVariants as what
use Rattle.tree_log.specs.Tree.{tree_of, is_active, is_discarded, chain, children_of}
use Rattle.tree_log.specs.NamedChildren.{child_named}
use Rattle.tree_log.specs.Urls.{url_of}
use Rattle.agent_terms.specs.declared.outcome.Outcome.{Outcome}
use Rattle.agent_terms.specs.declared.outcome.Outcome.TheVariants as outcome
use Rattle.agent_terms.specs.declared.outcome.Ask.TheVariants as wish
use Rattle.agent_terms.specs.declared.request.Request.TheVariants as ask
use Rattle.agent_terms.specs.declared.request.ReplyOutcome.TheVariants as reply
use Rattle.object_access.specs.Values.{text, text_of}
use Rattle.object_access.specs.Access.{set, foreign_property}
use Rattle.object_access.specs.Going.{go}
use Rattle.object_access.specs.WindowAccess.{window, window_of, window_value, window_set}
use Rattle.object_access.specs.StepAnswer.{first_stores}
use Rattle.coordinator_rules.specs.Decision.{one}
use Rattle.agent_rows.specs.Logs.{started, frame, framed}
use Rattle.agent_rows.specs.Coordinator.{answered}

-- the asker d1 sets `location` of the frame's window to a URL, on a log that it heard
unfoldable pub sets_location : List Entry → Outcome
unfolding set foreign_property store_of platform made_by_platform acted role_at set_to window_of window_value window_set go text_of named spelled same_key array_index index_of listed cross_named made_for_others is_fallback tree_of url_of chain is_discarded is_active children_of child_named url_on_literals
sets_location log = set (window (tree_of log) (url_of log) 1 1) (first_stores (object.Window 2)) (key.Text (codes "location")) (text (codes "https://c.test/"))

-- where d1 hasn't heard that d3 was committed, it names the initial document d2
pub names_initial : sets_location (frame (codes "f") 0 ∷ started) ≡ outcome.Ask (wish.Go 2 (codes "https://c.test/"))
unfolding sets_location
names_initial = refl

-- which the coordinator knows to be no longer active: nothing is done
pub nothing_is_done : answered framed 0 (ask.Go 1 2 (codes "https://c.test/") false) ≡ one 0 1 what.Sync reply.Done
unfolding answered
nothing_is_done = refl
