-- Where a Location's setter and methods, and a Window's setter of `location`, go to (HTML Standard, 7.2.4, Location-object navigate).
use Rattle.std.specs.Prelude.{ℕ, List, true, Option, Some, None, Result, Ok, Err, if◌then◌else◌}
use Rattle.origin_core.specs.Page.{read_page}
use Rattle.object_access.specs.Names.{UrlError, Value, Outcome, Ask}
use Rattle.tree_log.specs.Tree.{Tree, is_active}
use Rattle.object_access.specs.Values.{text_of}

abbrev pub gone_to : ℕ → Result (List ℕ) UrlError → Outcome
gone_to doc (Ok page) = Outcome.Ask (Ask.Go doc page)
gone_to doc (Err UrlError.SchemeOut) = Outcome.SchemeOut
gone_to doc (Err _) = Outcome.Syntax

-- the text is read against the URL of the document that asks; nothing is done where the Location's isn't active
unfoldable pub go : Tree → (ℕ → List ℕ) → ℕ → ℕ → List ℕ → Option Outcome
go t urls asker doc text = if is_active t doc then Some (gone_to doc (read_page (Some (urls asker)) text)) else None

abbrev pub or_else_outcome : Outcome → Option Outcome → Outcome
or_else_outcome other None = other
or_else_outcome other (Some o) = o

-- what is done with a value's text; a value that has none gives a TypeError
abbrev pub with_text : Value → (List ℕ → Outcome) → Outcome
with_text v f = elim (text_of v) [ None ↦ Outcome.TypeFault | Some t ↦ f t ]

-- what a set of `href` comes to
abbrev pub set_href : Tree → (ℕ → List ℕ) → ℕ → ℕ → Value → Outcome
set_href t urls asker doc v = with_text v (λ text. or_else_outcome (Outcome.Truth true) (go t urls asker doc text))
