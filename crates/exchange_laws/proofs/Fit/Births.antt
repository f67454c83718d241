-- What the tree of a log in range knows of its documents and navigables is in range.
use Rattle.std.proofs.Common.{◌≡◌, ℕ, ◌<◌, ◌≤◌, ◌^◌, List, [], ◌∷◌, length, Option, Some, None, Bool, true, false, refl, subst, arith}
use Rattle.std.specs.Prelude.{◌==◌, unwrap_or, if◌then◌else◌}
use Rattle.std.specs.Option.{option_or}
use Rattle.origin_core.specs.declared.origin.Origin.{Origin}
use Rattle.tree_log.specs.declared.entry.Entry.{Entry}
use Rattle.tree_log.specs.declared.entry.Load.{Load}
use Rattle.tree_log.specs.declared.entry.What.{What}
use Rattle.tree_log.specs.declared.entry.What.TheVariants.{Open, Frame, Begin}
use Rattle.tree_log.specs.Facts.{Birth, no_number, bears, bears_load, Making, making}
use Rattle.tree_log.specs.Tree.{tree_of, nav_of}
use Rattle.tree_log.specs.Admits.{AreAdmitted}
use Rattle.tree_log.proofs.Admitted.{few_of, lt_of}
use Rattle.agent_laws.proofs.Groups.Well.{admitted_well}
use Rattle.link_fields.specs.Basic.{flags, optional}
use Rattle.link_fields.specs.Origins.{origin}
use Rattle.frame_grammar.specs.Parts.{load as load_field}
use Rattle.exchange_laws.specs.Fit.{AreFit}
use Rattle.exchange_laws.proofs.Fit.Parts.{WhatFits, parts_fit, if_some}

-- a document's home and origin are in range
pub record IsBirthFit (b : Birth) : Type 0 where
  pub home : b.home < 2 ^ 16
  pub origin_fits : origin.Fits b.origin

-- where it was made
abbrev pub IsFitIfMade : Birth → Type 0
IsFitIfMade b = b.nav < no_number → IsBirthFit b

made_fit : (b : Birth) → b.home < 2 ^ 16 → origin.Fits b.origin → IsFitIfMade b
made_fit b home o made = record { home = home; origin_fits = o }

-- a load in range has a document, a home, an origin and a URL in range
pub load_parts : (l : Load) → load_field.Fits l → (l.doc < 2 ^ 32) × (l.home < 2 ^ 16) × origin.Fits l.origin
load_parts l h = (h.0.0, h.0.1.0, h.0.1.1.0)

if_fit : (b : Bool) (x old : Birth) → IsFitIfMade x → IsFitIfMade old → IsFitIfMade (unwrap_or (if b then Some x else None) old)
if_fit true x old h k = h
if_fit false x old h k = k

load_born : (d nav : ℕ) (load : Option Load) (old : Birth) → (optional load_field).Fits load → IsFitIfMade old → IsFitIfMade (unwrap_or (bears_load d nav load) old)
load_born d nav None old h k = k
load_born d nav (Some load) old h k =
    let parts = load_parts load (if_some load_field load h) in
    let b : Birth = record { nav = nav; origin = load.origin; home = load.home; loaded = true } in
    if_fit (load.doc == d) b old (made_fit b parts.1 parts.2) k

or_born : (b : Bool) (x old : Birth) (rest : Option Birth) → IsFitIfMade x → IsFitIfMade (unwrap_or rest old) → IsFitIfMade (unwrap_or (option_or (if b then Some x else None) rest) old)
or_born true x old rest h k = h
or_born false x old rest h k = k

first_born : (d nav doc home : ℕ) (o : Origin) (load : Option Load) (old : Birth) → home < 2 ^ 16 → origin.Fits o → (optional load_field).Fits load → IsFitIfMade old
    → IsFitIfMade (unwrap_or (option_or (if doc == d then Some (record { nav = nav; origin = o; home = home; loaded = false }) else None) (bears_load d nav load)) old)
first_born d nav doc home o load old lt fits loads k =
    let b : Birth = record { nav = nav; origin = o; home = home; loaded = false } in
    or_born (doc == d) b old (bears_load d nav load) (made_fit b lt fits) (load_born d nav load old loads k)

-- what an entry that makes a navigable says of it
pub record IsMakerFit (home : ℕ) (o : Origin) (fl : ℕ) (l : Option Load) : Type 0 where
  pub home_fits : home < 2 ^ 16
  pub origin_fits : origin.Fits o
  pub flags_fit : flags.Fits fl
  pub load_fits : (optional load_field).Fits l

pub open_fit : (nav doc group home : ℕ) (o : Origin) (name : List ℕ) (opener : Option ℕ) (fl : ℕ) (navigator : Option ℕ) (l : Option Load)
    → WhatFits (Open nav doc group home o name opener fl navigator l) → IsMakerFit home o fl l
open_fit nav doc group home o name opener fl navigator l h =
    let a = h.0 in
    let f = h.1.1.1.1 in
    let same_home : a.1.1.1.0 ≡ home = cc in
    let same_origin : a.1.1.1.1.0 ≡ o = cc in
    let same_flags : a.1.1.1.1.1.1.1.0 ≡ fl = cc in
    let same_load : a.1.1.1.1.1.1.1.1.1 ≡ l = cc in
    record {
      home_fits = subst (λ (n : ℕ). n < 2 ^ 16) same_home f.0;
      origin_fits = subst (λ (x : Origin). origin.Fits x) same_origin f.1.0;
      flags_fit = subst (λ (n : ℕ). flags.Fits n) same_flags f.1.1.1.1.0;
      load_fits = subst (λ (x : Option Load). (optional load_field).Fits x) same_load f.1.1.1.1.1.1;
    }

pub frame_fit : (nav doc home : ℕ) (o : Origin) (name : List ℕ) (fl : ℕ) (l : Option Load) → WhatFits (Frame nav doc home o name fl l) → IsMakerFit home o fl l
frame_fit nav doc home o name fl l h =
    let a = h.0 in
    let f = h.1.1.1 in
    let same_home : a.1.1.0 ≡ home = cc in
    let same_origin : a.1.1.1.0 ≡ o = cc in
    let same_flags : a.1.1.1.1.1.0 ≡ fl = cc in
    let same_load : a.1.1.1.1.1.1 ≡ l = cc in
    record {
      home_fits = subst (λ (n : ℕ). n < 2 ^ 16) same_home f.0;
      origin_fits = subst (λ (x : Origin). origin.Fits x) same_origin f.1.0;
      flags_fit = subst (λ (n : ℕ). flags.Fits n) same_flags f.1.1.1.0;
      load_fits = subst (λ (x : Option Load). (optional load_field).Fits x) same_load f.1.1.1.1;
    }

pub begin_fit : (nav : ℕ) (l : Load) → WhatFits (Begin nav l) → load_field.Fits l
begin_fit nav l h =
    let same : h.0.1 ≡ l = cc in
    subst (λ (x : Load). load_field.Fits x) same h.1.1

step_born : (d : ℕ) (w : What) (old : Birth) → WhatFits w → IsFitIfMade old → IsFitIfMade (unwrap_or (bears d w) old)
step_born d (Open nav doc group home o name opener fl navigator l) old h k =
    let m = open_fit nav doc group home o name opener fl navigator l h in
    first_born d nav doc home o l old m.home_fits m.origin_fits m.load_fits k
step_born d (Frame nav doc home o name fl l) old h k =
    let m = frame_fit nav doc home o name fl l h in
    first_born d nav doc home o l old m.home_fits m.origin_fits m.load_fits k
step_born d (Begin nav l) old h k = load_born d nav (Some l) old ((omega arith, refl), begin_fit nav l h) k
step_born d _ old h k = k

born_if_made : (log : List Entry) (d : ℕ) → AreFit log → IsFitIfMade ((tree_of log).doc d).born
unfolding tree_of
born_if_made [] d h = λ made. absurd (omega (arith, made))
born_if_made (e ∷ older) d h = step_born d e.what ((tree_of older).doc d).born (parts_fit e h.0).what (born_if_made older d h.1)

-- a document that is there
pub born_fit : (log : List Entry) (d : ℕ) → AreAdmitted log → AreFit log → length log < 2 ^ 30 → d < (tree_of log).docs → IsBirthFit ((tree_of log).doc d).born
born_fit log d all fit short there =
    let below : nav_of (tree_of log) d < (tree_of log).navs = (admitted_well log all).below d there in
    let few : (tree_of log).navs ≤ length log = (few_of log).navs in
    born_if_made log d fit (omega arith)

-- FLAGS

if_flags : (b : Bool) (x old : Making) → x.flags < 256 → old.flags < 256 → (unwrap_or (if b then Some x else None) old).flags < 256
if_flags true x old h k = h
if_flags false x old h k = k

pub flags_below : (n : ℕ) → flags.Fits n → n < 256
flags_below n h = lt_of n 256 h.1

step_flags : (n : ℕ) (actor : Option ℕ) (w : What) (old : Making) → WhatFits w → old.flags < 256 → (unwrap_or (making n actor w) old).flags < 256
step_flags n actor (Open nav doc group home o name opener fl navigator l) old h k =
    if_flags (nav == n) _ old (flags_below fl (open_fit nav doc group home o name opener fl navigator l h).flags_fit) k
step_flags n actor (Frame nav doc home o name fl l) old h k = if_flags (nav == n) _ old (flags_below fl (frame_fit nav doc home o name fl l h).flags_fit) k
step_flags n actor _ old h k = k

pub made_flags_fit : (log : List Entry) (n : ℕ) → AreFit log → ((tree_of log).nav n).made.flags < 256
unfolding tree_of
made_flags_fit [] n h = omega arith
made_flags_fit (e ∷ older) n h = step_flags n e.actor e.what ((tree_of older).nav n).made (parts_fit e h.0).what (made_flags_fit older n h.1)
