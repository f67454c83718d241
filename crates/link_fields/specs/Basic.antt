-- Numbers, truth values, options, texts, pages' URLs and sandbox flags.
use Rattle.std.specs.Prelude.{ℕ, ◌<◌, ◌^◌, ◌&&◌, nat_lt, nat_le, ◌==◌, List, [], ◌++◌, length, take, drop, Bool, cond, Option, Some, None, Ok, Err, if◌then◌else◌}
use Rattle.std.specs.Int.{Width, w8, w16, w32, w64, byte_len, from_be_bytes, to_be_bytes}
use Rattle.std.specs.Str.{is_utf8}
use Rattle.plain_data.specs.DataLimits.{is_short}
use Rattle.origin_core.specs.Page.{is_page_text}
use Rattle.link_fields.specs.declared.fault.Flaw.TheVariants.{Short, Range, Text, Url}
use Rattle.link_fields.specs.Field.{Outcome, ◌>>=◌, fault_at, Field, nothing, only, mapped, keyed}

unfoldable pub number_bytes : Width → ℕ → List ℕ
number_bytes w n = to_be_bytes w n

unfoldable pub number_at : Width → List ℕ → Outcome (ℕ × List ℕ)
number_at w bytes =
    if nat_lt (length bytes) (byte_len w) then Err (fault_at Short bytes)
    else Ok (from_be_bytes w (take (byte_len w) bytes), drop (byte_len w) bytes)

-- a number, the high byte first
abbrev pub number : Width → ℕ → Field ℕ
number w limit = record { spell = number_bytes w; Fits = λ n. n < limit; read = number_at w }

abbrev pub u8 : Field ℕ
u8 = number w8 (2 ^ 8)

abbrev pub u16 : Field ℕ
u16 = number w16 (2 ^ 16)

abbrev pub u32 : Field ℕ
u32 = number w32 (2 ^ 32)

abbrev pub u64 : Field ℕ
u64 = number w64 (2 ^ 64)

-- a byte up to a limit
abbrev pub small : ℕ → Field ℕ
small most = only Range (λ n. nat_le n most) u8

-- 0 or 1
abbrev pub truth : Field Bool
truth = mapped (λ n. n == 1) (λ b. if b then 1 else 0) (small 1)

-- the tag of an option
abbrev pub some_tag : {A : Type 0} → Option A → ℕ
some_tag None = 0
some_tag (Some a) = 1

abbrev pub some_spell : {A : Type 0} → Field A → Option A → List ℕ
some_spell f None = []
some_spell f (Some a) = f.spell a

abbrev pub SomeFits : {A : Type 0} → Field A → Option A → Type 0
SomeFits f None = ⊥
SomeFits f (Some a) = f.Fits a

-- the value of an option that has one
abbrev pub present : {A : Type 0} → Field A → Field (Option A)
present f = record {
  spell = some_spell f;
  Fits = SomeFits f;
  read = λ bytes. f.read bytes >>= λ a. Ok (Some a.0, a.1);
}

-- 0, or 1 and the value
abbrev pub optional : {A : Type 0} → Field A → Field (Option A)
optional f = keyed some_tag (small 1) (λ tag. cond (tag == 0) (nothing None) (present f))

-- a length of two bytes, and that many bytes
unfoldable pub string_at : List ℕ → Outcome (List ℕ × List ℕ)
string_at bytes =
    number_at w16 bytes >>= λ n.
    if nat_lt (length n.1) n.0 then Err (fault_at Short bytes) else Ok (take n.0 n.1, drop n.0 n.1)

abbrev pub string : Field (List ℕ)
string = record {
  spell = λ text. number_bytes w16 (length text) ++ text;
  Fits = λ text. length text < 2 ^ 16;
  read = string_at;
}

-- UTF-8 within the limit of texts
unfoldable pub is_text : List ℕ → Bool
is_text text = is_utf8 text && is_short text

abbrev pub text : Field (List ℕ)
text = only Text is_text string

-- the text of a page's URL, as the URL Standard serializes it
abbrev pub url : Field (List ℕ)
url = only Url is_page_text text

-- the sum of the flags' bits
abbrev pub flags : Field ℕ
flags = only Range (λ n. nat_lt n 256) u16
