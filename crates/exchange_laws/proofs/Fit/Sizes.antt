-- How many bytes an entry and an outcome in range take.
use Rattle.std.proofs.Common.{◌≡◌, ℕ, ◌+◌, ◌≤◌, ◌^◌, List, [], length, Option, Some, None, Bool, ap, subst, arith, length-append}
use Rattle.std.specs.Int.{Width, w8, w16, w32, byte_len}
use Rattle.origin_core.specs.declared.origin.Origin.{Origin}
use Rattle.origin_core.specs.declared.origin.Origin.TheVariants.{Tuple, Opaque}
use Rattle.origin_core.specs.Tuple.{TupleParts}
use Rattle.tree_log.specs.declared.entry.Target.{Target}
use Rattle.tree_log.specs.declared.entry.Target.TheVariants as targets
use Rattle.link_fields.specs.declared.fault.Flaw.{Flaw}
use Rattle.link_fields.specs.Field.{Field, ◌⊗◌, nothing, only, mapped}
use Rattle.link_fields.specs.Kinds.{Kind, row_of}
use Rattle.link_fields.specs.Basic.{number_bytes, u8, u16, u32, small, truth, text, url, flags, optional}
use Rattle.link_fields.specs.Origins.{scheme, host, port, tuple, origin}
use Rattle.link_fields.specs.Skipping.{data_field}
use Rattle.link_fields.proofs.FieldLaws.{IsWide, wide8, wide16, wide32}
use Rattle.frame_grammar.specs.Parts.{target, load, cause}
use Rattle.exchange_laws.proofs.Fit.Origins.{text_length}

-- a value in range takes at most n bytes
pub record IsUpTo {A : Type 0} (f : Field A) (n : ℕ) : Type 0 where
  pub most : (a : A) → f.Fits a → length (f.spell a) ≤ n

bytes_long : (w : Width) (limit : ℕ) → IsWide w limit → (n : ℕ) → length (number_bytes w n) ≡ byte_len w
unfolding number_bytes
bytes_long w limit wide n = wide.len n

pub byte_long : (n : ℕ) → length (number_bytes w8 n) ≡ 1
byte_long n = bytes_long w8 (2 ^ 8) wide8 n

two_long : (n : ℕ) → length (number_bytes w16 n) ≡ 2
two_long n = bytes_long w16 (2 ^ 16) wide16 n

pub four_long : (n : ℕ) → length (number_bytes w32 n) ≡ 4
four_long n = bytes_long w32 (2 ^ 32) wide32 n

pub u8_size : IsUpTo u8 1
u8_size = record { most = λ n h. omega (arith, byte_long n) }

pub u16_size : IsUpTo u16 2
u16_size = record { most = λ n h. omega (arith, two_long n) }

pub u32_size : IsUpTo u32 4
u32_size = record { most = λ n h. omega (arith, four_long n) }

pub nothing_size : {A : Type 0} (a : A) → IsUpTo (nothing a) 0
nothing_size a = record { most = λ b h. omega arith }

pub pair_size : {A B : Type 0} (f : Field A) (g : Field B) (n m : ℕ) → IsUpTo f n → IsUpTo g m → IsUpTo (f ⊗ g) (n + m)
pair_size f g n m uf ug = record { most = λ x h. omega (arith, length-append (f.spell x.0) (g.spell x.1), uf.most x.0 h.0, ug.most x.1 h.1) }

pub only_size : {A : Type 0} (why : Flaw) (test : A → Bool) (f : Field A) (n : ℕ) → IsUpTo f n → IsUpTo (only why test f) n
only_size why test f n u = record { most = λ a h. u.most a h.0 }

pub mapped_size : {A B : Type 0} (to : A → B) (from : B → A) (f : Field A) (n : ℕ) → IsUpTo f n → IsUpTo (mapped to from f) n
mapped_size to from f n u = record { most = λ b h. u.most (from b) h.0 }

pub small_size : (most : ℕ) → IsUpTo (small most) 1
small_size most = only_size _ _ u8 1 u8_size

truth_size : IsUpTo truth 1
truth_size = mapped_size _ _ (small 1) 1 (small_size 1)

optional_most : {A : Type 0} (f : Field A) (n : ℕ) → IsUpTo f n → (o : Option A) → (optional f).Fits o → length ((optional f).spell o) ≤ 1 + n
optional_most f n u None h = omega (arith, length-append (number_bytes w8 0) [], byte_long 0)
optional_most f n u (Some a) h = omega (arith, length-append (number_bytes w8 1) (f.spell a), byte_long 1, u.most a h.1)

pub optional_size : {A : Type 0} (f : Field A) (n : ℕ) → IsUpTo f n → IsUpTo (optional f) (1 + n)
optional_size f n u = record { most = optional_most f n u }

pub text_size : IsUpTo text 1026
text_size = record { most = λ s h. omega (arith, length-append (number_bytes w16 (length s)) s, two_long (length s), text_length s h) }

pub url_size : IsUpTo url 1026
url_size = only_size _ _ text 1026 text_size

pub flags_size : IsUpTo flags 2
flags_size = only_size _ _ u16 2 u16_size

-- ORIGINS

scheme_size : IsUpTo scheme 1
scheme_size = mapped_size _ _ (small 1) 1 (small_size 1)

tuple_size : IsUpTo tuple 1031
tuple_size = record {
  most = λ t h.
      let head = pair_size scheme truth 1 1 scheme_size truth_size in
      let name = only_size _ _ text 1026 text_size in
      let body = pair_size (host t.ip) (optional (port t.scheme)) 1026 3 name (optional_size (port t.scheme) 2 (only_size _ _ u16 2 u16_size)) in
      omega (arith, length-append ((scheme ⊗ truth).spell (t.scheme, t.ip)) ((host t.ip ⊗ optional (port t.scheme)).spell (t.host, t.port)), head.most (t.scheme, t.ip) h.0, body.most (t.host, t.port) h.1.0.0);
}

origin_most : (o : Origin) → origin.Fits o → length (origin.spell o) ≤ 1032
origin_most (Tuple t) h =
    let same : h.1.0 ≡ t = cc in
    omega (arith, length-append (number_bytes w8 0) (tuple.spell t), byte_long 0, tuple_size.most t (subst (λ (x : TupleParts). tuple.Fits x) same h.1.1))
origin_most (Opaque n) h = omega (arith, length-append (number_bytes w8 1) (u32.spell n), byte_long 1, four_long n)

pub origin_size : IsUpTo origin 1032
origin_size = record { most = origin_most }

target_most : (t : Target) → target.Fits t → length (target.spell t) ≤ 1033
target_most targets.Any h = omega (arith, length-append (number_bytes w8 0) [], byte_long 0)
target_most targets.Never h = omega (arith, length-append (number_bytes w8 1) [], byte_long 1)
target_most (targets.Origin o) h =
    let same : h.1.0 ≡ o = cc in
    omega (arith, length-append (number_bytes w8 2) (origin.spell o), byte_long 2, origin_most o (subst (λ (x : Origin). origin.Fits x) same h.1.1))

pub target_size : IsUpTo target 1033
target_size = record { most = target_most }

pub load_size : IsUpTo load 2064
load_size = mapped_size _ _ (u32 ⊗ u16 ⊗ origin ⊗ url) 2064 (pair_size u32 (u16 ⊗ origin ⊗ url) 4 2060 u32_size (pair_size u16 (origin ⊗ url) 2 2058 u16_size (pair_size origin url 1032 1026 origin_size url_size)))

pub cause_size : IsUpTo cause 1
cause_size = mapped_size _ _ (small 1) 1 (small_size 1)

pub data_size : IsUpTo data_field 4096
data_size = record { most = λ d h. h.1 }

-- KINDS

pub kind_most : {A B : Type 0} (spelled : B → ℕ × List ℕ) (k : Kind A B) (n most : ℕ) → n ≤ most → IsUpTo k.fields n → ((a : A) → (spelled (k.make a)).1 ≡ k.fields.spell a)
    → (b : B) → (row_of spelled k).Fits b → length (spelled b).1 ≤ most
kind_most {A} {B} spelled k n most le u same b h =
    let size = u.most h.0 h.1 in
    let long = ap length (same h.0) in
    subst (λ (x : B). length (spelled x).1 ≤ most) h.2 (omega arith)
