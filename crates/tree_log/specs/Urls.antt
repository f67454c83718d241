-- The URL of a document: that of the newest load or fragment navigation of it (DOM Standard, 4.5, a document's URL).
use Rattle.std.specs.Prelude.{ℕ, List, ◌∷◌, Option, Some, None, codes, unwrap_or, ◌≡◌, refl}
use Rattle.tree_log.specs.Names.{Entry, Load, What, Fragment}
use Rattle.tree_log.specs.Facts.{newest, at, load_in}

abbrev pub load_url : ℕ → Option Load → Option (List ℕ)
load_url d None = None
load_url d (Some load) = at d load.doc load.url

abbrev pub gives_url : ℕ → What → Option (List ℕ)
gives_url d (Fragment _ doc url) = at d doc url
gives_url d what = load_url d (load_in what)

unfoldable pub url_of : List Entry → ℕ → List ℕ
url_of log d = newest (λ e. gives_url d e.what) (codes "about:blank") log

-- the URLs after one more entry
unfoldable pub urls_after : (ℕ → List ℕ) → Entry → ℕ → List ℕ
urls_after urls e = λ d. unwrap_or (gives_url d e.what) (urls d)

-- one more entry of the log is one step of the URLs
pub url_of_step : (e : Entry) (log : List Entry) → url_of (e ∷ log) ≡ urls_after (url_of log) e
unfolding url_of urls_after
url_of_step e log = refl
