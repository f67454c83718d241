-- The pages of a session, by URL.
use Rattle.std.specs.Prelude.{◌≡◌, ℕ, List, find, bytes_eq, Bool, Option}
use Rattle.std.specs.Borrow.{Bor}
use Rattle.std.specs.Option.{option_copied}
use Rattle.indexmap.specs.IndexMap.{IndexMap, get_by}
use Rattle.agent_terms.specs.declared.session.Page.{Page}

abbrev pub is_page_of : List ℕ → Page → Bool
is_page_of url page = bytes_eq page.url url

-- the page that a map has for a URL
abbrev pub page_at : {S : Type 0} → IndexMap (Bor (List ℕ)) (Bor Page) S → List ℕ → Option Page
page_at pages url = option_copied (get_by (λ k. bytes_eq url k.now) pages)

-- what is found by each URL is the first of the pages that has it
abbrev pub FindsFirst : List Page → (List ℕ → Option Page) → Type 0
FindsFirst pages at = (url : List ℕ) → at url ≡ find (is_page_of url) pages
