-- The rows that are no equations.
use Rattle.agent_rows.proofs.AlikeLinks as links
use Rattle.agent_rows.proofs.LostTasks.{lost_log_legal, legal_at_four, legal_at_five, not_legal_at_six}
use Rattle.agent_rows.proofs.Replies as replies
use Rattle.agent_rows.proofs.rows.Goals as goal

pub returns-clause-told_in_two : goal.returns-clause-told_in_two
returns-clause-told_in_two c = replies.told_in_two

pub returns-clause-long_logs : goal.returns-clause-long_logs
returns-clause-long_logs c = replies.synced_is_legal

pub returns-clause-lost_log : goal.returns-clause-lost_log
returns-clause-lost_log c = lost_log_legal

pub returns-clause-had_heard : goal.returns-clause-had_heard
returns-clause-had_heard c = (legal_at_four, legal_at_five)

pub returns-clause-never_heard : goal.returns-clause-never_heard
returns-clause-never_heard c = not_legal_at_six

pub returns-clause-equal_links : goal.returns-clause-equal_links
returns-clause-equal_links c = links.equal_links

pub returns-clause-other_links : goal.returns-clause-other_links
returns-clause-other_links c = links.other_links

pub returns-clause-hidden_links : goal.returns-clause-hidden_links
returns-clause-hidden_links c = links.hidden_links
