-- How many steps a session in range has.
use Rattle.std.proofs.Common.{◌*◌, ◌≤◌, ◌<◌, ◌^◌, List, [], ◌∷◌, length, All, arith}
use Rattle.std.proofs.lemmas.List.Elements.{All-head, All-tail}
use Rattle.agent_terms.specs.declared.session.Session.{Session}
use Rattle.agent_terms.specs.declared.session.Page.{Page}
use Rattle.session_text.specs.Range.{IsPage, IsInRange}
use Rattle.session_text.specs.Summary.{step_count}

few_steps : (pages : List Page) → All IsPage pages → step_count pages ≤ 400 * length pages
unfolding step_count
few_steps [] fine = omega arith
few_steps (page ∷ pages) fine =
    let first : IsPage page = All-head IsPage page pages fine in
    let script = first.script.few in
    let handler = first.handler.few in
    let rest : step_count pages ≤ 400 * length pages = few_steps pages (All-tail IsPage page pages fine) in
    omega arith

pub steps_fit : (s : Session) → IsInRange s → step_count s.pages < 2 ^ 64
steps_fit s range =
    let count = few_steps s.pages range.pages in
    let most = range.most in
    omega arith
