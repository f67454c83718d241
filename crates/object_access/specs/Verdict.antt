-- Whether an operation on an object is refused, and by which rule (HTML Standard, 7.2.1.3, the abstract operations for
-- access across origins). It is said once, for a Window and a Location alike.
use Rattle.std.specs.Prelude.{◌≡◌, Result, Ok, Err, if◌then◌else◌}
use Rattle.window_props.specs.declared.descriptor.Body.TheVariants as body
use Rattle.window_props.specs.declared.descriptor.Descriptor.{Descriptor}
use Rattle.window_props.specs.History.{Store}
use Rattle.agent_terms.specs.declared.outcome.Ruling.{Ruling}
use Rattle.agent_terms.specs.declared.outcome.Ruling.TheVariants.{Allowed, Refused}
use Rattle.agent_terms.specs.declared.outcome.Op.{Op}
use Rattle.agent_terms.specs.declared.outcome.Op.TheVariants as op
use Rattle.object_access.specs.Names.{Key, Value, Change, Outcome, Rule, S3, S4, S5, S6}
use Rattle.object_access.specs.Access as access
use Rattle.object_access.specs.Access.{Seen, foreign_property}

abbrev pub ruled : Result Descriptor Rule → (Descriptor → Ruling) → Ruling
ruled (Err rule) f = Refused rule
ruled (Ok d) f = f d

abbrev pub ruled_get : Descriptor → Ruling
ruled_get d = elim d.body [ body.Value _ _ ↦ Allowed | body.Accessor get _ ↦ if get then Allowed else Refused S3 ]

abbrev pub ruled_set : Descriptor → Ruling
ruled_set d = elim d.body [ body.Value _ _ ↦ Refused S4 | body.Accessor _ set ↦ if set then Allowed else Refused S4 ]

abbrev pub ruled_foreign : Op → Result Descriptor Rule → Ruling
ruled_foreign op.Get found = ruled found ruled_get
ruled_foreign op.Set found = ruled found ruled_set
ruled_foreign op.Has found = ruled found (λ d. Allowed)
ruled_foreign op.Describe found = ruled found (λ d. Allowed)
ruled_foreign op.Define found = Refused S5
ruled_foreign op.Delete found = Refused S6
ruled_foreign op.Keys found = Allowed
ruled_foreign op.Prototype found = Allowed

unfoldable pub verdict : Seen → Op → Key → Ruling
verdict s o key = if s.own then Allowed else ruled_foreign o (foreign_property s key)

-- the ruling that an outcome shows: a SecurityError is a refusal, by its rule
abbrev pub ruling_of : Outcome → Ruling
ruling_of (Outcome.Security rule) = Refused rule
ruling_of _ = Allowed

-- the verdict on each operation is the ruling that its outcome shows, whatever the properties are and whatever is given
pub record TellsOutcomes (s : Seen) : Type 0 where
  pub get : (props : Store) (key : Key) → verdict s op.Get key ≡ ruling_of (access.got s props key)
  pub has : (props : Store) (key : Key) → verdict s op.Has key ≡ ruling_of (access.has s props key)
  pub describe : (props : Store) (key : Key) → verdict s op.Describe key ≡ ruling_of (access.described s props key)
  pub set : (props : Store) (key : Key) (v : Value) → verdict s op.Set key ≡ ruling_of (access.set s props key v)
  pub define : (props : Store) (key : Key) (change : Change) → verdict s op.Define key ≡ ruling_of (access.defined s props key change)
  pub delete : (props : Store) (key : Key) → verdict s op.Delete key ≡ ruling_of (access.deleted s props key)
  pub keys : (props : Store) (key : Key) → verdict s op.Keys key ≡ ruling_of (access.keys s props)
  pub prototype : (key : Key) → verdict s op.Prototype key ≡ ruling_of (access.prototype s)
