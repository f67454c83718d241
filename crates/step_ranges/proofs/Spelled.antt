-- What a log of entries that frames can spell says: names and URLs are short, and so are the serializations of origins.
use Rattle.std.proofs.Common.{◌≡◌, ℕ, List, [], ◌∷◌, length, codes, Option, Some, None, Bool, true, false, refl, subst}
use Rattle.std.specs.Prelude.{◌==◌, nat_lt, is_some, unwrap_or, if◌then◌else◌}
use Rattle.std.specs.Str.{is_utf8}
use Rattle.std.specs.Option.{option_or}
use Rattle.std.proofs.lemmas.Bool.{false≢true}
use Rattle.plain_data.specs.DataLimits.{is_short, within_limits}
use Rattle.plain_data.specs.declared.data.Data.{Data}
use Rattle.origin_core.specs.declared.origin.Origin.{Origin}
use Rattle.origin_core.specs.declared.origin.Origin.TheVariants.{Tuple, Opaque}
use Rattle.origin_core.specs.Origin.{origin_text}
use Rattle.origin_core.specs.Page.{is_page_text}
use Rattle.origin_core.specs.Tuple.{TupleParts, tuple_text, within_limit}
use Rattle.tree_log.specs.declared.entry.Entry.{Entry}
use Rattle.tree_log.specs.declared.entry.Load.{Load}
use Rattle.tree_log.specs.declared.entry.Target.{Target}
use Rattle.tree_log.specs.declared.entry.What.{What}
use Rattle.tree_log.specs.declared.entry.What.TheVariants.{Open, Frame, Name, Begin, Fragment, Post}
use Rattle.tree_log.specs.Facts.{names, Birth, bears, bears_load}
use Rattle.tree_log.specs.Tree.{tree_of, origin_of}
use Rattle.tree_log.specs.Urls.{url_of, load_url, gives_url}
use Rattle.tree_log.proofs.Admitted.{both}
use Rattle.link_fields.specs.Basic.{text, url, optional, is_text}
use Rattle.link_fields.specs.Origins.{origin}
use Rattle.link_fields.specs.Skipping.{data_field}
use Rattle.link_fields.proofs.LimitLaws.{data_fits}
use Rattle.frame_grammar.specs.Parts.{load as load_field}
use Rattle.exchange_laws.specs.Fit.{AreFit}
use Rattle.exchange_laws.proofs.Fit.Blanks.{about_blank_fits}
use Rattle.exchange_laws.proofs.Fit.Births.{open_fit, frame_fit, begin_fit}
use Rattle.exchange_laws.proofs.Fit.Parts.{WhatFits, parts_fit, if_some}
use Rattle.step_ranges.proofs.Texts.{at_least, not_over}

-- FIELDS

pub text_short : (s : List ℕ) → text.Fits s → is_short s ≡ true
unfolding is_text
text_short s h = (both (is_utf8 s) (is_short s) h.1).1

limited_short : (t : TupleParts) → is_some (within_limit t) ≡ true → is_short (tuple_text t) ≡ true
limited_short t h = by_size (nat_lt 1024 (length (tuple_text t))) refl h
  where
    by_size : (b : Bool) → nat_lt 1024 (length (tuple_text t)) ≡ b → is_some (if b then None else Some t) ≡ true → is_short (tuple_text t) ≡ true
    by_size true e k = absurd (false≢true k)
    by_size false e k = at_least (length (tuple_text t)) 1024 (not_over (length (tuple_text t)) e)

pub origin_short : (o : Origin) → origin.Fits o → is_short (origin_text o) ≡ true
origin_short (Tuple t) h =
    let inside : TupleParts = h.1.0 in
    let same : inside ≡ t = let made : Tuple inside ≡ Tuple t = h.1.2 in cc in
    subst (λ (x : TupleParts). is_short (tuple_text x) ≡ true) same (limited_short inside h.1.1.1.1)
origin_short (Opaque n) h = refl

-- MESSAGES

-- the parts of a message that are written to registers
pub record IsPostShort (o : Origin) (body : Data) : Type 0 where
  pub origin_is : is_short (origin_text o) ≡ true
  pub body_is : within_limits body ≡ true

pub post_short : (to from : ℕ) (o : Origin) (target : Target) (body : Data) → WhatFits (Post to from o target body) → IsPostShort o body
post_short to from o target body h =
    let same_origin : h.0.1.1.0 ≡ o = cc in
    let same_body : h.0.1.1.1.1 ≡ body = cc in
    record {
      origin_is = origin_short o (subst (λ (x : Origin). origin.Fits x) same_origin h.1.1.1.0);
      body_is = ((data_fits body).0 (subst (λ (x : Data). data_field.Fits x) same_body h.1.1.1.1.1)).0;
    }

-- NAMES

open_name : (nav doc group home : ℕ) (o : Origin) (name : List ℕ) (opener : Option ℕ) (fl : ℕ) (navigator : Option ℕ) (l : Option Load)
    → WhatFits (Open nav doc group home o name opener fl navigator l) → is_short name ≡ true
open_name nav doc group home o name opener fl navigator l h =
    let same : h.0.1.1.1.1.1.0 ≡ name = cc in
    text_short name (subst (λ (x : List ℕ). text.Fits x) same h.1.1.1.1.1.1.0)

frame_name : (nav doc home : ℕ) (o : Origin) (name : List ℕ) (fl : ℕ) (l : Option Load) → WhatFits (Frame nav doc home o name fl l) → is_short name ≡ true
frame_name nav doc home o name fl l h =
    let same : h.0.1.1.1.1.0 ≡ name = cc in
    text_short name (subst (λ (x : List ℕ). text.Fits x) same h.1.1.1.1.1.0)

given_name : (nav : ℕ) (name : List ℕ) → WhatFits (Name nav name) → is_short name ≡ true
given_name nav name h =
    let same : h.0.1 ≡ name = cc in
    text_short name (subst (λ (x : List ℕ). text.Fits x) same h.1.1)

if_short : (b : Bool) (x old : List ℕ) → is_short x ≡ true → is_short old ≡ true → is_short (unwrap_or (if b then Some x else None) old) ≡ true
if_short true x old h k = h
if_short false x old h k = k

step_name : (n : ℕ) (w : What) (old : List ℕ) → WhatFits w → is_short old ≡ true → is_short (unwrap_or (names n w) old) ≡ true
step_name n (Open nav doc group home o name opener fl navigator l) old h k = if_short (nav == n) name old (open_name nav doc group home o name opener fl navigator l h) k
step_name n (Frame nav doc home o name fl l) old h k = if_short (nav == n) name old (frame_name nav doc home o name fl l h) k
step_name n (Name nav name) old h k = if_short (nav == n) name old (given_name nav name h) k
step_name n _ old h k = k

pub names_short : (log : List Entry) (n : ℕ) → AreFit log → is_short ((tree_of log).nav n).name ≡ true
unfolding tree_of
names_short [] n h = refl
names_short (e ∷ older) n h = step_name n e.what ((tree_of older).nav n).name (parts_fit e h.0).what (names_short older n h.1)

-- ORIGINS

abbrev IsBirthShort : Birth → Type 0
IsBirthShort b = is_short (origin_text b.origin) ≡ true

if_born : (b : Bool) (x old : Birth) → IsBirthShort x → IsBirthShort old → IsBirthShort (unwrap_or (if b then Some x else None) old)
if_born true x old h k = h
if_born false x old h k = k

load_origin : (l : Load) → load_field.Fits l → is_short (origin_text l.origin) ≡ true
load_origin l h = origin_short l.origin h.0.1.1.0

load_born : (d nav : ℕ) (l : Option Load) (old : Birth) → (optional load_field).Fits l → IsBirthShort old → IsBirthShort (unwrap_or (bears_load d nav l) old)
load_born d nav None old h k = k
load_born d nav (Some l) old h k = if_born (l.doc == d) (record { nav = nav; origin = l.origin; home = l.home; loaded = true }) old (load_origin l (if_some load_field l h)) k

or_born : (b : Bool) (x old : Birth) (rest : Option Birth) → IsBirthShort x → IsBirthShort (unwrap_or rest old) → IsBirthShort (unwrap_or (option_or (if b then Some x else None) rest) old)
or_born true x old rest h k = h
or_born false x old rest h k = k

first_born : (d nav doc home : ℕ) (o : Origin) (l : Option Load) (old : Birth) → origin.Fits o → (optional load_field).Fits l → IsBirthShort old
    → IsBirthShort (unwrap_or (option_or (if doc == d then Some (record { nav = nav; origin = o; home = home; loaded = false }) else None) (bears_load d nav l)) old)
first_born d nav doc home o l old fits loads k =
    or_born (doc == d) (record { nav = nav; origin = o; home = home; loaded = false }) old (bears_load d nav l) (origin_short o fits) (load_born d nav l old loads k)

step_born : (d : ℕ) (w : What) (old : Birth) → WhatFits w → IsBirthShort old → IsBirthShort (unwrap_or (bears d w) old)
step_born d (Open nav doc group home o name opener fl navigator l) old h k =
    let m = open_fit nav doc group home o name opener fl navigator l h in
    first_born d nav doc home o l old m.origin_fits m.load_fits k
step_born d (Frame nav doc home o name fl l) old h k =
    let m = frame_fit nav doc home o name fl l h in
    first_born d nav doc home o l old m.origin_fits m.load_fits k
step_born d (Begin nav l) old h k = if_born (l.doc == d) (record { nav = nav; origin = l.origin; home = l.home; loaded = true }) old (load_origin l (begin_fit nav l h)) k
step_born d _ old h k = k

-- of a document that isn't there too: its origin is opaque
pub origins_short : (log : List Entry) (d : ℕ) → AreFit log → is_short (origin_text (origin_of (tree_of log) d)) ≡ true
unfolding tree_of
origins_short [] d h = refl
origins_short (e ∷ older) d h = step_born d e.what ((tree_of older).doc d).born (parts_fit e h.0).what (origins_short older d h.1)

-- URLS

-- a page's URL, which is short
pub record IsPage (u : List ℕ) : Type 0 where
  pub short : is_short u ≡ true
  pub page : is_page_text u ≡ true

url_page : (u : List ℕ) → url.Fits u → IsPage u
url_page u h = record { short = text_short u h.0; page = h.1 }

load_page : (l : Load) → load_field.Fits l → IsPage l.url
load_page l h = url_page l.url h.0.1.1.1

if_page : (b : Bool) (x old : List ℕ) → IsPage x → IsPage old → IsPage (unwrap_or (if b then Some x else None) old)
if_page true x old h k = h
if_page false x old h k = k

loaded_page : (d : ℕ) (l : Option Load) (old : List ℕ) → (optional load_field).Fits l → IsPage old → IsPage (unwrap_or (load_url d l) old)
loaded_page d None old h k = k
loaded_page d (Some l) old h k = if_page (l.doc == d) l.url old (load_page l (if_some load_field l h)) k

fragment_page : (nav doc : ℕ) (u : List ℕ) → WhatFits (Fragment nav doc u) → IsPage u
fragment_page nav doc u h =
    let same : h.0.1.1 ≡ u = cc in
    url_page u (subst (λ (x : List ℕ). url.Fits x) same h.1.1.1)

step_page : (d : ℕ) (w : What) (old : List ℕ) → WhatFits w → IsPage old → IsPage (unwrap_or (gives_url d w) old)
step_page d (Open nav doc group home o name opener fl navigator l) old h k = loaded_page d l old (open_fit nav doc group home o name opener fl navigator l h).load_fits k
step_page d (Frame nav doc home o name fl l) old h k = loaded_page d l old (frame_fit nav doc home o name fl l h).load_fits k
step_page d (Begin nav l) old h k = if_page (l.doc == d) l.url old (load_page l (begin_fit nav l h)) k
step_page d (Fragment nav doc u) old h k = if_page (doc == d) u old (fragment_page nav doc u h) k
step_page d _ old h k = k

-- of a document that isn't active this URL is told
pub blank_page : IsPage (codes "about:blank")
blank_page = url_page (codes "about:blank") about_blank_fits

pub pages_spelled : (log : List Entry) (d : ℕ) → AreFit log → IsPage (url_of log d)
unfolding url_of
pages_spelled [] d h = blank_page
pages_spelled (e ∷ older) d h = step_page d e.what (url_of older d) (parts_fit e h.0).what (pages_spelled older d h.1)
