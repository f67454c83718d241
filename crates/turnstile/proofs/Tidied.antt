-- What a pass is between calls, by what callers see of it.
use Rattle.std.proofs.Common.{◌≡◌, ℕ, List, [], ◌∷◌, Option, Some, None, refl, subst}
use Rattle.std.specs.Option.{IfSome, IsSome}
use Rattle.atomic_table.specs.Table.{Me}
use Rattle.turnstile.specs.declared.view.View.{View}
use Rattle.turnstile.specs.declared.view.Stage.{Stage}
use Rattle.turnstile.specs.declared.view.Stage.TheVariants.{Outside, Waiting, Inside, Spent}
use Rattle.turnstile.specs.Histories.{Enters, Extends}
use Rattle.turnstile.specs.Before.{before}
use Rattle.turnstile.specs.Tidy.{inside_of, HoldsRight, IsTidy}
use Rattle.turnstile.proofs.Exchange.{before_is}

module _ {S I : Type 0} (names : I → Option ℕ) where
  outside_held : (n : ℕ) (seen : List I) (st : Stage I) (c : List (ℕ × Option S)) → HoldsRight names n seen st c → inside_of st ≡ None → (st ≡ Outside) × (c ≡ [])
  outside_held n seen Outside c h e = (refl, h)
  outside_held n seen (Waiting t) c h e = absurd h
  outside_held n seen (Inside t l) c h e = absurd (cc e)
  outside_held n seen Spent c h e = absurd h

  pub outside_is : (me : Me (Option S) (View I)) → IsTidy names me → inside_of me.0.stage ≡ None → (me.0.stage ≡ Outside) × (me.1 ≡ [])
  outside_is me h e = outside_held me.0.number me.0.seen me.0.stage me.1 h.1 e

  inside_held : (P : List I → Type 0) (n : ℕ) (seen : List I) (st : Stage I) (c : List (ℕ × Option S)) → HoldsRight names n seen st c → IsSome (inside_of st) → IfSome (inside_of st) P → (t : ℕ) × (e : List I) × (st ≡ Inside t e) × (c ≡ (0, None) ∷ []) × P e
  inside_held P n seen Outside c h s p = absurd (cc s)
  inside_held P n seen (Waiting t) c h s p = absurd h
  inside_held P n seen (Inside t l) c h s p = (t, l, refl, h.0, p)
  inside_held P n seen Spent c h s p = absurd h

  pub inside_is : (P : List I → Type 0) (me : Me (Option S) (View I)) → IsTidy names me → IsSome (inside_of me.0.stage) → IfSome (inside_of me.0.stage) P → (t : ℕ) × (e : List I) × (me.0.stage ≡ Inside t e) × (me.1 ≡ (0, None) ∷ []) × P e
  inside_is P me h s p = inside_held P me.0.number me.0.seen me.0.stage me.1 h.1 s p

  -- what was found is known from what was seen before and after
  pub found_is : (n : ℕ) (seen now : List I) (st : Stage I) (c : List (ℕ × Option S)) (i : Option (List I)) → HoldsRight names n seen st c → inside_of st ≡ i → IfSome i (λ e. Extends names n e now) → IfSome i (λ e. before names n seen now ≡ e)
  found_is n seen now st c None h e x = x
  found_is n seen now Outside c (Some l) h e x = absurd (cc e)
  found_is n seen now (Waiting t) c (Some l) h e x = absurd h
  found_is n seen now (Inside t l') c (Some l) h e x = let same : l' ≡ l = cc e in before_is names n seen l now (subst (Enters names n seen) same h.1) x
  found_is n seen now Spent c (Some l) h e x = absurd h
