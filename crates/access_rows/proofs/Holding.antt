-- A register that holds what is there fits.
use Rattle.std.proofs.Common.{◌≡◌, ℕ, ◌<◌, List, Bool, true, false, if◌then◌else◌, subst, sym, ap, ◌∙◌}
use Rattle.std.specs.Prelude.{◌==◌, ◌&&◌, bytes_eq}
use Rattle.window_props.specs.declared.value.Value.{Value}
use Rattle.tree_log.specs.Tree.{Tree}
use Rattle.object_access.specs.Values.{undefined}
use Rattle.object_access.specs.Registers.{unset, written}
use Rattle.script_steps.specs.Reached.{Fits, IsValueThere}

written_fits : (t : Tree) (d : ℕ) (name : List ℕ) (v : Value) → d < t.docs → IsValueThere t v → Fits t (written d name v unset) d
unfolding written
written_fits t d name v there h = record { there = there; values = λ other. by ((d == d) && bytes_eq other name) }
  where
    by : (b : Bool) → IsValueThere t (if b then v else undefined)
    by true = h
    by false = tt

-- the registers after a write to registers to which nothing was written
pub first_write_fits : (t : Tree) (d : ℕ) (name : List ℕ) (v : Value) (before after : ℕ → List ℕ → Value)
    → before ≡ unset → after ≡ written d name v before → d < t.docs → IsValueThere t v → Fits t after d
first_write_fits t d name v before after first write there h =
    subst (λ (r : ℕ → List ℕ → Value). Fits t r d) (sym (write ∙ ap (λ (r : ℕ → List ℕ → Value). written d name v r) first)) (written_fits t d name v there h)
