-- A port is a URL's own where it isn't the default of the scheme.
use Rattle.std.proofs.Common.{◌≡◌, ◌≢◌, ℕ, ◌^◌, ◌<◌, Bool, true, ◌∙◌, sym, ap, refl, Some, not, nat_eq, arith}
use Rattle.std.specs.Prelude.{IsTrue, ◌↔◌}
use Rattle.std.proofs.lemmas.Bool.Decides.{nat_tests}
use Rattle.std.proofs.lemmas.Bool.{ne_eqb}
use Rattle.url.specs.Scheme.{default_port}
use Rattle.url.specs.Parts.{IsPortOf}
use Rattle.origin_core.specs.declared.origin.Scheme.{Scheme}
use Rattle.origin_core.specs.declared.origin.Scheme.TheVariants.{Http, Https}
use Rattle.origin_core.specs.Tuple as spec
use Rattle.origin_core.specs.Tuple.{scheme_text, is_own_port}

some_default : (scheme : Scheme) → default_port (scheme_text scheme) ≡ Some (spec.default_port scheme)
unfolding default_port
some_default Http = refl
some_default Https = refl

differs : (d n : ℕ) → not (nat_eq n d) ≡ true → Some d ≢ Some n
differs d n other same = let e : d ≡ n = cc in grind (arith, nat_tests)

pub own_port_iff : (scheme : Scheme) (n : ℕ) (r : Bool) → n < 2 ^ 16 → r ≡ is_own_port scheme (Some n) → IsTrue r ↔ IsPortOf (scheme_text scheme) (Some n)
own_port_iff scheme n r small value = (
  λ yes. (small, rw (some_default scheme) (differs (spec.default_port scheme) n (sym value ∙ yes))),
  λ own.
      let other : Some (spec.default_port scheme) ≢ Some n = rw (some_default scheme) at own.1 in
      value ∙ ap not (ne_eqb n (spec.default_port scheme) (λ e. other (ap Some (sym e)))),
)
