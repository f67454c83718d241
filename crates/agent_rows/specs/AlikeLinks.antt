-- Links that a renderer can't tell apart, and links that it could.
use Rattle.std.specs.Prelude.{ℕ, List, false, codes}
use Rattle.agent_terms.specs.declared.request.Request.{Request}
use Rattle.agent_terms.specs.declared.request.Request.TheVariants as ask
use Rattle.twin_laws.specs.Alike.{IsAlike}
use Rattle.agent_rows.specs.Logs.{framed, rules}

-- a link of a document to a page, in the frame named f
abbrev pub link : ℕ → List ℕ → Request
link asker url = ask.Link asker url (codes "f") false false

abbrev pub page_p : List ℕ
page_p = codes "https://b.test/p"

abbrev pub page_q : List ℕ
page_q = codes "https://b.test/q"

-- what renderer 0 asks on the log of the window and its frame, as renderer r sees it
abbrev pub AreAlikeTo : ℕ → Request → Request → Type 0
AreAlikeTo r left right = IsAlike rules framed framed r 0 left right
