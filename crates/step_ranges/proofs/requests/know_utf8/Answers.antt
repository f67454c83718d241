use Rattle.std.specs.Str.{IsUtf8}
use Rattle.std.proofs.Common.{subst}
use Rattle.std.proofs.lemmas.Str.{is_utf8-from_IsUtf8}
use Rattle.step_ranges.proofs.requests.know_utf8.Goals as goal

pub returns : goal.returns
returns c = is_utf8-from_IsUtf8 c.args.given.now (subst IsUtf8 c.as_str-text.ensures c.as_str-text.utf8)
