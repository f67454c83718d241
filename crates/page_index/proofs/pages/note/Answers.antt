use Rattle.std.proofs.Common.{◌≡◌, List, ℕ, bytes_eq, true, sym, ◌∙◌, subst}
use Rattle.std.specs.Prelude.{is_some}
use Rattle.indexmap.specs.IndexMap.{get_by}
use Rattle.page_index.proofs.Firsts.{stays_first, joins_first}
use Rattle.page_index.proofs.pages.note.Goals as goal

pub returns-then-contains_key : goal.returns-then-contains_key
returns-then-contains_key c = λ pages firsts.
    stays_first c.args.firsts.now pages c.args.page.now
    (subst (λ (url : List ℕ). is_some (get_by (λ k. bytes_eq url k.now) c.args.firsts.now) ≡ true) c.as_str-url.ensures.value (sym c.contains_key.ensures ∙ c.if-contains_key.true)) firsts

pub returns : goal.returns
returns c = λ pages firsts.
    joins_first c.args.firsts.now c.insert.new.self pages c.as_str-url.result c.args.page
    c.in_ok-insert.ensures.entries (sym c.contains_key.ensures ∙ c.if-contains_key.false) c.as_str-url.ensures.value firsts
