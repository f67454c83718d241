use Rattle.std.proofs.Common.{sym, subst, ◌∙◌, true≢false}
use Rattle.session_reading.specs.Refusing.{Gives}
use Rattle.session_text.proofs.Top.{session_of_json, session_of_none}
use Rattle.session_text.proofs.InRange.{range_of_gives}
use Rattle.session_text.proofs.session.read_session.Goals as goal

pub returns-in-Ok-clause-session : goal.returns-in-Ok-clause-session
returns-in-Ok-clause-session c =
    let read = c.in-Ok.ensures.ok in
    subst (Gives c.session_of.result) (sym (session_of_json c.args.bytes.now _ read.0 read.1)) c.session_of.ensures.given

pub returns-in-Ok-clause-range : goal.returns-in-Ok-clause-range
returns-in-Ok-clause-range c = range_of_gives _ _ c.session_of.ensures.given c.session_of.ensures.start c.session_of.ensures.pages

pub returns-in-Err-2-clause-session : goal.returns-in-Err-2-clause-session
returns-in-Err-2-clause-session c =
    session_of_none c.args.bytes.now
    (c.in-Err.ensures.err (λ m. true≢false (sym (c.is_memory.ensures.1 m) ∙ c.if-is_memory.false)))
