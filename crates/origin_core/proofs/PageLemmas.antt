-- A page's text parses to its record, and reading it gives it again.
use Rattle.std.proofs.Common.{◌≡◌, ℕ, ◌≤◌, ◌∙◌, false, List, Some, None, Ok, Err, ap, arith, nat_lt}
use Rattle.url.proofs.OnLiterals.{url_on_literals}
use Rattle.std.specs.Prelude.{codes, refl, Option, IfSome, IfOk}
use Rattle.std.proofs.lemmas.Bool.{cond-true, cond-false}
use Rattle.std.proofs.lemmas.Bool.Decides.{nat_tests}
use Rattle.std.proofs.lemmas.Slice.Eq.{bytes_eq-Decides}
use Rattle.url.specs.Parts.{Parts, serialize}
use Rattle.url.specs.Parser.{Parsed, Gives, and_then, parse_url}
use Rattle.url.specs.Parts.{IsValid}
use Rattle.url.specs.Canonical.{IsCanonical}
use Rattle.url.proofs.ParsedCanonical.{parse_url_canonical}
use Rattle.url.proofs.Theorems.{parse_url-serialize}
use Rattle.origin_core.specs.Page.{parse_against, page_text, page_of_parsed, read_page, IsPageRecord, IsPageText, IsAsParsed, is_text, page_spelled}

pub not_over : (n : ℕ) → n ≤ 1024 → nat_lt 1024 n ≡ false
not_over n small = grind (arith, nat_tests)

pub own_text : (url : Parts) (base : Option Parts) → IsPageRecord url → parse_url base (serialize url) ≡ Ok url
own_text url base page = parse_url-serialize url base page.valid page.canonical

pub own_page_text : (url : Parts) → IsPageRecord url → page_text url ≡ Ok (serialize url)
own_page_text url page = cond-true _ _ _ page.page ∙ cond-false _ _ _ (not_over _ page.small)

pub page_text_of_record : (url : Parts) → IsPageRecord url → IsPageText (serialize url)
page_text_of_record url page =
    cond-false _ _ _ (not_over _ page.small) ∙ ap page_of_parsed (own_text url None page) ∙ own_page_text url page

pub against_record : (url : Parts) (text : List ℕ) → IsPageRecord url → parse_against (Some (serialize url)) text ≡ parse_url (Some url) text
against_record url text page = ap (λ r. and_then r (λ b. parse_url (Some b) text)) (own_text url None page)

-- what the parser gives against a canonical base is canonical
pub parsed_as : (base : Option Parts) (text : List ℕ) (result : Parsed Parts) → IfSome base (λ b. IsValid b × IsCanonical b) → Gives result (parse_url base text) → IfOk result IsAsParsed
parsed_as base text (Ok url) canonical gives = λ valid. parse_url_canonical base text url canonical valid gives
parsed_as base text (Err e) canonical gives = tt

pub blank_reads : read_page None (codes "about:blank") ≡ Ok (codes "about:blank")
unfolding url_on_literals
blank_reads = refl

pub reads_against : (base url : Parts) → IsPageRecord base → IsPageRecord url → read_page (Some (serialize base)) (serialize url) ≡ Ok (serialize url)
reads_against base url base_page page =
    cond-false _ _ _ (not_over _ page.small) ∙ ap page_of_parsed (against_record base (serialize url) base_page ∙ own_text url (Some base) page) ∙ own_page_text url page

pub text_spelled : (text : List ℕ) → IsPageText text → page_spelled text ≡ Some text
text_spelled text is = cond-true _ _ _ (ap (is_text text) is ∙ (bytes_eq-Decides text text).1 refl)
