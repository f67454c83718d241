-- What a map of pages has for each URL, as pages join it in turn.
use Rattle.std.proofs.Common.{◌≡◌, ℕ, List, [], ◌∷◌, ◌++◌, Option, Some, None, Bool, true, false, cond, refl, sym, ap, ◌∙◌, Bor}
use Rattle.std.specs.Prelude.{find, bytes_eq, is_some}
use Rattle.std.specs.Option.{option_or, option_copied}
use Rattle.std.specs.Map.{lookup}
use Rattle.std.specs.Cmp.Lexicographic.{nat_list_eq_equiv}
use Rattle.std.proofs.lemmas.Bool.{false≢true}
use Rattle.std.proofs.lemmas.List.Folds.{find-append}
use Rattle.std.proofs.lemmas.Slice.Eq.{bytes_eq-Decides}
use Rattle.indexmap.specs.IndexMap.{IndexMap, get_by, insert_entry}
use Rattle.indexmap.proofs.CallerLemmas.{insert_entry-new}
use Rattle.agent_terms.specs.declared.session.Page.{Page}
use Rattle.page_index.specs.Pages.{is_page_of, page_at, FindsFirst}

lookup_append : {K X : Type 0} (test : K → Bool) (es fs : List (K × X)) → lookup test (es ++ fs) ≡ option_or (lookup test es) (lookup test fs)
lookup_append test [] fs = refl
lookup_append test (e ∷ es) fs = here (test e.0) (lookup_append test es fs)
  where
    here : (b : Bool) → lookup test (es ++ fs) ≡ option_or (lookup test es) (lookup test fs)
        → cond b (Some e.1) (lookup test (es ++ fs)) ≡ option_or (cond b (Some e.1) (lookup test es)) (lookup test fs)
    here true later = refl
    here false later = later

copied_or : {X : Type 0} (o : Option (Bor X)) (b : Bool) (x : Bor X) → option_copied (option_or o (cond b (Some x) None)) ≡ option_or (option_copied o) (cond b (Some x.now) None)
copied_or (Some y) b x = refl
copied_or None true x = refl
copied_or None false x = refl

is_some_copied : {X : Type 0} (o : Option (Bor X)) → is_some (option_copied o) ≡ is_some o
is_some_copied None = refl
is_some_copied (Some x) = refl

-- a page at the end counts where no page before it has its URL
first_of_more : (url : List ℕ) (pages : List Page) (page : Page)
    → find (is_page_of url) (pages ++ page ∷ []) ≡ option_or (find (is_page_of url) pages) (cond (bytes_eq page.url url) (Some page) None)
first_of_more url pages page = find-append (is_page_of url) pages (page ∷ [])

-- a map that has the URL of the page
pub stays_first : {S : Type 0} (m : IndexMap (Bor (List ℕ)) (Bor Page) S) (pages : List Page) (page : Page)
    → is_some (get_by (λ k. bytes_eq page.url k.now) m) ≡ true → FindsFirst pages (page_at m) → FindsFirst (pages ++ page ∷ []) (page_at m)
stays_first m pages page there firsts = λ url. firsts url ∙ sym (first_of_more url pages page ∙ same_first url (find (is_page_of url) pages) refl (bytes_eq page.url url) refl)
  where
    same_first : (url : List ℕ) (o : Option Page) → find (is_page_of url) pages ≡ o → (b : Bool) → bytes_eq page.url url ≡ b
        → option_or (find (is_page_of url) pages) (cond (bytes_eq page.url url) (Some page) None) ≡ find (is_page_of url) pages
    same_first url (Some p) e b f = rw (e) refl
    same_first url None e false f = rw (e, f) refl
    same_first url None e true f =
        let same : page.url ≡ url = (bytes_eq-Decides page.url url).0 f in
        absurd (false≢true (sym (ap is_some (ap (page_at m) same ∙ firsts url ∙ e)) ∙ is_some_copied (get_by (λ k. bytes_eq page.url k.now) m) ∙ there))

none_of : {X : Type 0} (o : Option X) → is_some o ≡ false → o ≡ None
none_of None e = refl
none_of (Some x) e = absurd cc

abbrev is_same_text : Bor (List ℕ) → Bor (List ℕ) → Bool
is_same_text a b = bytes_eq a.now b.now

-- a map that had no such URL, and now has the page for it
pub joins_first : {S : Type 0} (old new : IndexMap (Bor (List ℕ)) (Bor Page) S) (pages : List Page) (key : Bor (List ℕ)) (page : Bor Page)
    → new.entries ≡ insert_entry is_same_text old.entries key page → is_some (get_by (is_same_text key) old) ≡ false → key.now ≡ page.now.url
    → FindsFirst pages (page_at old) → FindsFirst (pages ++ page.now ∷ []) (page_at new)
joins_first old new pages key page joined absent named firsts = λ url.
    ap (λ (es : List (Bor (List ℕ) × Bor Page)). option_copied (lookup (λ k. bytes_eq url k.now) es)) (joined ∙ insert_entry-new is_same_text old key page (none_of _ absent))
    ∙ ap option_copied (lookup_append (λ k. bytes_eq url k.now) old.entries ((key, page) ∷ []))
    ∙ copied_or (lookup (λ k. bytes_eq url k.now) old.entries) (bytes_eq url key.now) page
    ∙ ap (λ (o : Option Page). option_or o (cond (bytes_eq url key.now) (Some page.now) None)) (firsts url)
    ∙ ap (λ (b : Bool). option_or (find (is_page_of url) pages) (cond b (Some page.now) None)) (ap (bytes_eq url) named ∙ nat_list_eq_equiv.symm url page.now.url)
    ∙ sym (first_of_more url pages page.now)
