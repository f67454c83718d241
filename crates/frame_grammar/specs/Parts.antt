-- Targets of messages, loads, and causes.
use Rattle.std.specs.Prelude.{ℕ, ◌==◌, List, [], cond, if◌then◌else◌}
use Rattle.tree_log.specs.declared.entry.Target.{Target}
use Rattle.tree_log.specs.declared.entry.Target.TheVariants as targets
use Rattle.tree_log.specs.declared.entry.Load.{Load}
use Rattle.tree_log.specs.declared.entry.Cause.{Cause}
use Rattle.tree_log.specs.declared.entry.Cause.TheVariants as causes
use Rattle.link_fields.specs.declared.fault.Flaw.TheVariants.{Range}
use Rattle.link_fields.specs.Field.{Field, ◌⊗◌, nothing, never, mapped, keyed, row}
use Rattle.link_fields.specs.Basic.{u16, u32, small, url}
use Rattle.link_fields.specs.Origins.{origin}

abbrev pub target_tag : Target → ℕ
target_tag targets.Any = 0
target_tag targets.Never = 1
target_tag (targets.Origin o) = 2

abbrev pub target_inside : Target → List ℕ
target_inside targets.Any = []
target_inside targets.Never = []
target_inside (targets.Origin o) = origin.spell o

abbrev pub target_row : ℕ → Field Target
target_row tag =
    cond (tag == 0) (nothing targets.Any)
    (cond (tag == 1) (nothing targets.Never)
    (cond (tag == 2) (row target_inside (λ o. targets.Origin o) origin)
    (never Range)))

-- 0 for any origin, 1 for none, 2 and an origin
abbrev pub target : Field Target
target = keyed target_tag (small 2) target_row

-- a document, its home, its origin and its URL
abbrev pub load : Field Load
load =
    mapped (λ x. record { doc = x.0; home = x.1.0; origin = x.1.1.0; url = x.1.1.1 })
    (λ l. (l.doc, (l.home, (l.origin, l.url)))) (u32 ⊗ u16 ⊗ origin ⊗ url)

abbrev pub cause_at : ℕ → Cause
cause_at n = if n == 1 then causes.Origin else causes.Inactive

abbrev pub cause_number : Cause → ℕ
cause_number causes.Inactive = 0
cause_number causes.Origin = 1

abbrev pub cause : Field Cause
cause = mapped cause_at cause_number (small 1)
