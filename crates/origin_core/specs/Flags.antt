-- Sandbox flags (HTML Standard, section 7.1.5, "parse a sandboxing directive"). A set of flags is
-- the sum of its flags' bits.
use Rattle.std.specs.Prelude.{◌≡◌, ℕ, ◌+◌, Bool, true, not, ◌||◌, ◌==◌, List, [], ◌++◌, map, codes, bytes_eq, bit_or, refl, if◌then◌else◌}
use Rattle.std.specs.Int.{bit_at}
use Rattle.std.specs.List.{list_any, slice_split}
use Rattle.std.specs.Char.{is_ascii_whitespace, to_ascii_lowercase}

-- ---- the attribute

-- the texts are equal but for the case of ASCII letters
abbrev pub is_same_word : List ℕ → List ℕ → Bool
is_same_word word piece = bytes_eq (map to_ascii_lowercase piece) (map to_ascii_lowercase word)

-- the keyword is one of those that ASCII white space parts
abbrev pub has_keyword : List ℕ → List ℕ → Bool
has_keyword text word = list_any (is_same_word word) (slice_split is_ascii_whitespace text)

-- each flag that the attribute can clear is set where its keyword is missing
abbrev pub sets_auxiliary : List ℕ → Bool
sets_auxiliary text = not (has_keyword text (codes "allow-popups"))

abbrev pub sets_top : List ℕ → Bool
sets_top text = not (has_keyword text (codes "allow-top-navigation"))

abbrev pub sets_top_by_user : List ℕ → Bool
sets_top_by_user text =
    not (has_keyword text (codes "allow-top-navigation")
    || has_keyword text (codes "allow-top-navigation-by-user-activation"))

abbrev pub sets_origin : List ℕ → Bool
sets_origin text = not (has_keyword text (codes "allow-same-origin"))

abbrev pub sets_scripts : List ℕ → Bool
sets_scripts text = not (has_keyword text (codes "allow-scripts"))

abbrev pub sets_propagates : List ℕ → Bool
sets_propagates text = not (has_keyword text (codes "allow-popups-to-escape-sandbox"))

-- the bit of a flag that is set
abbrev pub when_set : Bool → ℕ → ℕ
when_set set bit = if set then bit else 0

-- the sum of the bits of the flags that are set, from navigation to document.domain
unfoldable pub flags_sum : Bool → Bool → Bool → Bool → Bool → Bool → Bool → Bool → ℕ
flags_sum navigation auxiliary top top_by_user origin scripts propagates domain =
    when_set navigation 1 + when_set auxiliary 2 + when_set top 4 + when_set top_by_user 8
    + when_set origin 16 + when_set scripts 32 + when_set propagates 64 + when_set domain 128

-- navigation and document.domain are never cleared
abbrev pub flags_of : List ℕ → ℕ
flags_of text =
    flags_sum true (sets_auxiliary text) (sets_top text) (sets_top_by_user text)
    (sets_origin text) (sets_scripts text) (sets_propagates text) true

-- ---- a set of flags

-- the flag of the bit at this place is set
abbrev pub has_flag : ℕ → ℕ → Bool
has_flag place flags = bit_at flags place == 1

abbrev pub has_navigation : ℕ → Bool
has_navigation flags = has_flag 0 flags

abbrev pub has_auxiliary : ℕ → Bool
has_auxiliary flags = has_flag 1 flags

abbrev pub has_top : ℕ → Bool
has_top flags = has_flag 2 flags

abbrev pub has_top_by_user : ℕ → Bool
has_top_by_user flags = has_flag 3 flags

abbrev pub has_origin : ℕ → Bool
has_origin flags = has_flag 4 flags

abbrev pub has_scripts : ℕ → Bool
has_scripts flags = has_flag 5 flags

abbrev pub has_propagates : ℕ → Bool
has_propagates flags = has_flag 6 flags

abbrev pub has_domain : ℕ → Bool
has_domain flags = has_flag 7 flags

-- a flag is in the union where it is in either set
abbrev pub union : ℕ → ℕ → ℕ
union a b = bit_or a b

-- ---- letters

abbrev pub letter : Bool → List ℕ → List ℕ
letter set text = if set then text else []

-- one text and then another; it groups to the right, as a format writes it
infixr 10 ◌◊◌
abbrev pub ◌◊◌ : List ℕ → List ℕ → List ℕ
a ◊ b = a ++ b

-- the letters of the flags that are set, in the order of their bits
abbrev pub front_letters : ℕ → List ℕ
front_letters flags =
    letter (has_navigation flags) (codes "n") ◊ letter (has_auxiliary flags) (codes "a")
    ◊ letter (has_top flags) (codes "t") ◊ letter (has_top_by_user flags) (codes "u")

abbrev pub back_letters : ℕ → List ℕ
back_letters flags =
    letter (has_origin flags) (codes "o") ◊ letter (has_scripts flags) (codes "s")
    ◊ letter (has_propagates flags) (codes "p") ◊ letter (has_domain flags) (codes "d")

-- the letters, or `-` where no flag is set
abbrev pub flags_text : ℕ → List ℕ
flags_text flags = if flags == 0 then codes "-" else front_letters flags ◊ back_letters flags

pub all_letters : flags_text 255 ≡ codes "natuospd"
all_letters = refl

pub no_letters : flags_text 0 ≡ codes "-"
no_letters = refl

pub scripts_letters : flags_text 223 ≡ codes "natuopd"
scripts_letters = refl

pub scripts_allowed : flags_of (codes " ALLOW-scripts ") ≡ 223
unfolding flags_sum
scripts_allowed = refl
