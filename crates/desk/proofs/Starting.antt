-- A start window can follow the log, which stays in range.
use Rattle.std.proofs.Common.{◌≡◌, ◌∙◌, ◌+◌, ℕ, ◌<◌, ◌≤◌, ◌^◌, List, [], ◌∷◌, length, true, IsTrue, refl, ap, sym, subst}
use Rattle.std.specs.Prelude.{Result}
use Rattle.std.specs.Str.{IsAscii}
use Rattle.std.proofs.lemmas.List.Elements.{All-head}
use Rattle.std.proofs.lemmas.Slice.Eq.{bytes_eq-Decides}
use Rattle.std.proofs.lemmas.Str.{IsUtf8-from_ascii}
use Rattle.coordinator_rules.specs.Decision.{Rules}
use Rattle.exchange_laws.proofs.Fit.Origins.{text_fits}
use Rattle.exchange_laws.proofs.Fit.Starts.{start_fits}
use Rattle.link_fields.specs.Basic as fields
use Rattle.origin_core.specs.Page.{IsPageText, is_page_text, is_text}
use Rattle.origin_core.specs.declared.page.UrlError.{UrlError}
use Rattle.request_decisions.specs.Asked.{rules}
use Rattle.single_agent.specs.Session.{start_entry}
use Rattle.single_agent.proofs.Admitted.{start_admitted}
use Rattle.tree_log.specs.Admits.{admits}
use Rattle.tree_log.specs.Range.{IsInRange}
use Rattle.tree_log.specs.Tree.{Tree, tree_of}
use Rattle.tree_log.specs.declared.entry.Entry.{Entry}
use Rattle.desk.specs.Books.{KeepsFit}

-- the entry that was made is the next start window's
pub start_is : (by : Rules) (renderers : ℕ) (suffixes : List (List ℕ)) (t : Tree) (log : List Entry) (url : List ℕ) (e : Entry) → e ≡ start_entry (rules renderers suffixes) t url
    → t ≡ tree_of log → renderers ≡ by.renderers → suffixes ≡ by.suffixes → e ≡ start_entry by (tree_of log) url
start_is by renderers suffixes t log url e is tree some listed =
    is ∙ ap (λ (u : Tree). start_entry (rules renderers suffixes) u url) tree
    ∙ ap (λ n. start_entry (rules n suffixes) (tree_of log) url) some
    ∙ ap (λ (s : List (List ℕ)). start_entry (rules by.renderers s) (tree_of log) url) listed

pub start_follows : (by : Rules) (log : List Entry) (url : List ℕ) (e : Entry) → e ≡ start_entry by (tree_of log) url → length log < 2 ^ 30 → IsTrue (admits (tree_of log) e)
start_follows by log url e is short = subst (λ (x : Entry). IsTrue (admits (tree_of log) x)) (sym is) (start_admitted by log url short)

-- a page's URL is one that frames can spell
page_is : (url : List ℕ) → IsPageText url → is_page_text url ≡ true
page_is url reads = ap (λ (r : Result (List ℕ) UrlError). is_text url r) reads ∙ (bytes_eq-Decides url url).1 refl

pub page_fits : (url : List ℕ) → IsPageText url → IsAscii url → length url ≤ 1024 → fields.url.Fits url
page_fits url reads ascii small = (text_fits url (IsUtf8-from_ascii url ascii) small, page_is url reads)

pub start_keeps : (by : Rules) (log : List Entry) (url : List ℕ) (e : Entry) → e ≡ start_entry by (tree_of log) url → fields.url.Fits url → length log + 1 < 2 ^ 30 → KeepsFit by (e ∷ []) log
start_keeps by log url e is fits short = subst (λ (x : Entry). KeepsFit by (x ∷ []) log) (sym is) (record {
  kept = λ f range. start_fits by log url f fits (All-head (λ (x : Entry). IsInRange x.what) (start_entry by (tree_of log) url) [] range).1 short;
})
