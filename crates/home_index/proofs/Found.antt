-- What a key finds among entries is what its group and site find among their rows.
use Rattle.std.proofs.Common.{◌≡◌, ℕ, List, [], ◌∷◌, Option, Some, None, Bool, true, false, cond, refl, sym, ap, subst, ◌∙◌, eq-eqb}
use Rattle.std.specs.Prelude.{option_map, find, ◌++◌, ◌||◌, is_some, if◌then◌else◌, Result, Ok, Err, OnOk, OnErr}
use Rattle.std.specs.List.{list_any}
use Rattle.std.specs.Bool.{Decides}
use Rattle.std.specs.Map.{lookup}
use Rattle.std.proofs.lemmas.Bool.{and_parts, eqb-true}
use Rattle.std.proofs.lemmas.Bool.Decides.{same_from_decides}
use Rattle.std.specs.declared.string.String.{String}
use Rattle.origin_core.specs.declared.site.Site.{Site}
use Rattle.home_index.specs.declared.key.Key.{Key}
use Rattle.home_index.specs.declared.key.Place.{Place}
use Rattle.home_index.specs.declared.key.Resident.{Resident}
use Rattle.home_index.specs.Rows.{Row, is_row_of, with_row}
use Rattle.home_index.specs.Keyed.{place_of, row_at, rows_in, ArePlaced, KeepsPlaces, is_same_key, with_entry}
use Rattle.home_index.proofs.Places.{same_site, own_site, one_place}
use Rattle.home_index.proofs.Keys.{keys_decide}

-- what a row of a group and a site is
pub row_parts : (group : ℕ) (site : Site) (r : Row) → is_row_of group site r ≡ true → (r.group ≡ group) × (r.site ≡ site)
row_parts group site r is = let both = and_parts _ _ is in (eqb-true r.group group both.0, same_site r.site site both.1)

pub row_is_of : (group : ℕ) (site : Site) (r : Row) → r.group ≡ group → r.site ≡ site → is_row_of group site r ≡ true
row_is_of group site r g s = rw (eq-eqb r.group group g, s, own_site site) refl

abbrev at : ℕ → Place → Key
at g p = record { group = g; place = p }

-- the row of an entry is of this group and site where the key is of them
row_decides : {Y : Type 0} (hosts : List (String Y)) (group : ℕ) (site : Site) (p : Place) (e : Key × Resident) → place_of hosts site ≡ Some p → place_of hosts e.1.site ≡ Some e.0.place
    → Decides (is_row_of group site (row_at e)) (at group p ≡ e.0)
row_decides hosts group site p e here there = (
  λ is.
      let parts = row_parts group site (row_at e) is in
      let places : Some p ≡ Some e.0.place = sym here ∙ ap (place_of hosts) (sym parts.1) ∙ there in
      let place : p ≡ e.0.place = cc in
      let groups : group ≡ e.0.group = sym parts.0 in
      λ n. at (groups n) (place n),
  λ same.
      let groups : e.0.group ≡ group = sym (ap (λ (k : Key). k.group) same) in
      let places : e.0.place ≡ p = sym (ap (λ (k : Key). k.place) same) in
      row_is_of group site (row_at e) groups (one_place hosts e.1.site site p (there ∙ ap Some places) here),
)

same_test : {Y : Type 0} (hosts : List (String Y)) (group : ℕ) (site : Site) (p : Place) (e : Key × Resident) → place_of hosts site ≡ Some p → place_of hosts e.1.site ≡ Some e.0.place
    → is_row_of group site (row_at e) ≡ is_same_key (at group p) e.0
same_test hosts group site p e here there = same_from_decides _ _ (row_decides hosts group site p e here there) (keys_decide (at group p) e.0)

found_here : (b : Bool) (e : Key × Resident) (rows : Option Row) (residents : Option Resident) → option_map (λ (r : Row). r.home) rows ≡ option_map (λ (r : Resident). r.home) residents
    → option_map (λ (r : Row). r.home) (cond b (Some (row_at e)) rows) ≡ option_map (λ (r : Resident). r.home) (cond b (Some e.1) residents)
found_here true e rows residents same = refl
found_here false e rows residents same = same

pub home_found : {Y : Type 0} (hosts : List (String Y)) (es : List (Key × Resident)) (group : ℕ) (site : Site) (p : Place) → ArePlaced hosts es → place_of hosts site ≡ Some p
    → option_map (λ (r : Row). r.home) (find (is_row_of group site) (rows_in es)) ≡ option_map (λ (r : Resident). r.home) (lookup (is_same_key (at group p)) es)
home_found hosts [] group site p placed here = refl
home_found hosts (e ∷ es) group site p placed here =
    ap (λ (b : Bool). option_map (λ (r : Row). r.home) (cond b (Some (row_at e)) (find (is_row_of group site) (rows_in es)))) (same_test hosts group site p e here placed.0)
    ∙ found_here (is_same_key (at group p) e.0) e (find (is_row_of group site) (rows_in es)) (lookup (is_same_key (at group p)) es) (home_found hosts es group site p placed.1 here)

-- a site without a place has no row
no_row : {Y : Type 0} (hosts : List (String Y)) (e : Key × Resident) (group : ℕ) (site : Site) → place_of hosts e.1.site ≡ Some e.0.place → place_of hosts site ≡ None
    → (b : Bool) → is_row_of group site (row_at e) ≡ b → b ≡ false
no_row hosts e group site there none true is =
    let parts = row_parts group site (row_at e) is in
    let clash : Some e.0.place ≡ None = sym there ∙ ap (place_of hosts) parts.1 ∙ none in
    absurd cc
no_row hosts e group site there none false is = refl

pub none_found : {Y : Type 0} (hosts : List (String Y)) (es : List (Key × Resident)) (group : ℕ) (site : Site) → ArePlaced hosts es → place_of hosts site ≡ None
    → find (is_row_of group site) (rows_in es) ≡ None
none_found hosts [] group site placed none = refl
none_found hosts (e ∷ es) group site placed none =
    ap (λ (b : Bool). cond b (Some (row_at e)) (find (is_row_of group site) (rows_in es))) (no_row hosts e group site placed.0 none (is_row_of group site (row_at e)) refl) ∙ none_found hosts es group site placed.1 none

-- ONE ENTRY MORE

pub placed_later : {Y : Type 0} (old new : List (String Y)) (es : List (Key × Resident)) → KeepsPlaces old new → ArePlaced old es → ArePlaced new es
placed_later old new [] kept placed = tt
placed_later old new (e ∷ es) kept placed = (kept e.1.site e.0.place placed.0, placed_later old new es kept placed.1)

placed_last : {Y : Type 0} (hosts : List (String Y)) (es : List (Key × Resident)) (e : Key × Resident) → place_of hosts e.1.site ≡ Some e.0.place → ArePlaced hosts es → ArePlaced hosts (es ++ e ∷ [])
placed_last hosts [] e there placed = (there, tt)
placed_last hosts (x ∷ es) e there placed = (placed.0, placed_last hosts es e there placed.1)

placed_if : {Y : Type 0} (hosts : List (String Y)) (es : List (Key × Resident)) (e : Key × Resident) → place_of hosts e.1.site ≡ Some e.0.place → ArePlaced hosts es → (b : Bool) → ArePlaced hosts (if b then es else es ++ e ∷ [])
placed_if hosts es e there placed true = placed
placed_if hosts es e there placed false = placed_last hosts es e there placed

placed_with : {Y : Type 0} (hosts : List (String Y)) (es : List (Key × Resident)) (e : Key × Resident) → place_of hosts e.1.site ≡ Some e.0.place → ArePlaced hosts es → ArePlaced hosts (with_entry es e)
placed_with hosts es e there placed = placed_if hosts es e there placed (is_some (lookup (is_same_key e.0) es))

-- after an addition that may fail
pub placed_after : {Y T E : Type 0} (hosts : List (String Y)) (es new : List (Key × Resident)) (e : Key × Resident) (r : Result T E) → place_of hosts e.1.site ≡ Some e.0.place → ArePlaced hosts es
    → OnOk r (new ≡ with_entry es e) → OnErr r (new ≡ es) → ArePlaced hosts new
placed_after hosts es new e (Ok x) there placed added err = subst (ArePlaced hosts) (sym added) (placed_with hosts es e there placed)
placed_after hosts es new e (Err x) there placed added err = subst (ArePlaced hosts) (sym err) placed

any_here : (b : Bool) (e : Key × Resident) (o : Option Resident) (rest : Bool) → is_some o ≡ rest → is_some (cond b (Some e.1) o) ≡ (b || rest)
any_here true e o rest same = refl
any_here false e o rest same = same

same_any : {Y : Type 0} (hosts : List (String Y)) (es : List (Key × Resident)) (e : Key × Resident) → place_of hosts e.1.site ≡ Some e.0.place → ArePlaced hosts es
    → is_some (lookup (is_same_key e.0) es) ≡ list_any (is_row_of e.0.group e.1.site) (rows_in es)
same_any hosts [] e there placed = refl
same_any hosts (x ∷ es) e there placed =
    any_here (is_same_key e.0 x.0) x (lookup (is_same_key e.0) es) (list_any (is_row_of e.0.group e.1.site) (rows_in es)) (same_any hosts es e there placed.1)
    ∙ ap (λ (b : Bool). b || list_any (is_row_of e.0.group e.1.site) (rows_in es)) (sym (same_test hosts e.0.group e.1.site e.0.place x there placed.0))

rows_last : (es : List (Key × Resident)) (e : Key × Resident) → rows_in (es ++ e ∷ []) ≡ rows_in es ++ row_at e ∷ []
rows_last [] e = refl
rows_last (x ∷ es) e = ap (λ (rows : List Row). row_at x ∷ rows) (rows_last es e)

rows_if : (es : List (Key × Resident)) (e : Key × Resident) (b : Bool) → rows_in (if b then es else es ++ e ∷ []) ≡ (if b then rows_in es else rows_in es ++ row_at e ∷ [])
rows_if es e true = refl
rows_if es e false = rows_last es e

-- an entry more is a row more
pub rows_with : {Y : Type 0} (hosts : List (String Y)) (es : List (Key × Resident)) (e : Key × Resident) → place_of hosts e.1.site ≡ Some e.0.place → ArePlaced hosts es
    → rows_in (with_entry es e) ≡ with_row (rows_in es) (row_at e)
rows_with hosts es e there placed =
    rows_if es e (is_some (lookup (is_same_key e.0) es)) ∙ ap (λ (b : Bool). if b then rows_in es else rows_in es ++ row_at e ∷ []) (same_any hosts es e there placed)

pub on_ok : {T E P Q : Type 0} (r : Result T E) → OnOk r P → (P → Q) → OnOk r Q
on_ok (Ok x) p f = f p
on_ok (Err x) p f = tt

pub on_err : {T E P Q : Type 0} (r : Result T E) → OnErr r P → (P → Q) → OnErr r Q
on_err (Ok x) p f = tt
on_err (Err x) p f = f p

pub none_of : {A : Type 0} (o : Option A) → is_some o ≡ false → o ≡ None
none_of None e = refl
none_of (Some x) e = absurd cc
