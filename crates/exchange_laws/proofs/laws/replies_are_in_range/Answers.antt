-- Replies are in range.
use Rattle.exchange_laws.proofs.Fit.EntrySizes.{entry_most}
use Rattle.exchange_laws.proofs.Fit.Replies.{log_reply, reply_tells_one}
use Rattle.exchange_laws.proofs.Fit.Told.{news_fit}
use Rattle.exchange_laws.proofs.laws.replies_are_in_range.Goals as goal

pub returns-clause-news : goal.returns-clause-news
returns-clause-news c = news_fit

pub returns-clause-size : goal.returns-clause-size
returns-clause-size c = entry_most

pub returns-clause-reply : goal.returns-clause-reply
returns-clause-reply c = log_reply

pub returns-clause-one : goal.returns-clause-one
returns-clause-one c = reply_tells_one
