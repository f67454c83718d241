-- The rows that the crate's function cites.
use Rattle.agent_rows.specs.Logs.{framed_admitted}
use Rattle.agent_rows.specs.ForeignWindow.{gets_parent, refuses_name, refuses_index, then_is_a_frame}
use Rattle.agent_rows.specs.NamedChildren.{hidden_by_foreign, reaches_first}
use Rattle.agent_rows.specs.Navigating.{passes_opener_over, refuses_to_go}
use Rattle.agent_rows.specs.Coordinator.{unloaded, posts_nothing, home_of_new_site}
use Rattle.agent_rows.proofs.Messages.{posts_no_argument}
use Rattle.agent_rows.proofs.Shop.{shop_is_legal}
use Rattle.agent_rows.specs.Trees.{still_shown}
use Rattle.agent_rows.specs.Tasks.{fires_for_any, lapses_by_origin, lapses_where_replaced, writes_origin, closes_at_home}
use Rattle.agent_rows.specs.Domains.{y_sets, refuses_suffix, refuses_sandboxed, refuses_initial, apart_with_one, together_with_both}
use Rattle.agent_rows.proofs.Domains.{both_is_legal}
use Rattle.agent_rows.specs.Blanking.{message_hidden, sandboxed_url_hidden}

pub ruleset foreign_rows = (gets_parent, refuses_name, refuses_index, then_is_a_frame, hidden_by_foreign, reaches_first)

pub ruleset coordinator_rows = (framed_admitted, passes_opener_over, refuses_to_go, unloaded, posts_nothing, home_of_new_site)

pub ruleset shown_rows = (posts_no_argument, message_hidden, sandboxed_url_hidden)

pub ruleset task_rows = (still_shown, fires_for_any, lapses_by_origin, lapses_where_replaced, writes_origin, closes_at_home, shop_is_legal)

pub ruleset domain_rows = (y_sets, refuses_suffix, refuses_sandboxed, refuses_initial, apart_with_one, together_with_both, both_is_legal)
