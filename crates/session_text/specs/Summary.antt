-- What the line on a session says.
use Rattle.std.specs.Prelude.{ℕ, ◌+◌, List, [], ◌∷◌, ◌++◌, length, codes, decimal}
use Rattle.agent_terms.specs.declared.session.Session.{Session}
use Rattle.agent_terms.specs.declared.session.Page.{Page}

-- the steps of the pages, those of the handlers too
unfoldable pub step_count : List Page → ℕ
step_count [] = 0
step_count (page ∷ pages) = (length page.script + length page.handler) + step_count pages

-- the line on a session, with its line feed
abbrev pub summary_words : Session → List ℕ
summary_words s =
    codes "session ok renderers=" ++ (decimal s.renderers ++ (codes " start=" ++ (decimal (length s.start)
    ++ (codes " pages=" ++ (decimal (length s.pages) ++ (codes " steps=" ++ (decimal (step_count s.pages) ++ codes "\n")))))))
