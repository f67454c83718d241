-- What each entry of a log says of a navigable or of a document (HTML Standard, 7.3). The newest entry that says something decides.
use Rattle.std.specs.Prelude.{ℕ, ◌+◌, List, [], ◌∷◌, ◌++◌, Option, Some, None, Bool, true, false, ◌||◌, ◌==◌, if◌then◌else◌, unwrap_or, is_some}
use Rattle.std.specs.Option.{option_or}
use Rattle.tree_log.specs.Names.{Entry, Load, What, Open, Frame, Drop, Name, Begin, Commit, Opener, Closing, Gone, Domain}
use Rattle.origin_core.specs.declared.origin.Origin.{Origin}

-- what the newest entry that says something says, or else first
abbrev pub newest : {A : Type 0} → (Entry → Option A) → A → List Entry → A
newest says first [] = first
newest says first (e ∷ older) = unwrap_or (says e) (newest says first older)

-- whether some entry is so
abbrev pub some_entry : (Entry → Bool) → List Entry → Bool
some_entry test [] = false
some_entry test (e ∷ older) = test e || some_entry test older

-- x, if the number is the one asked for
abbrev pub at : {A : Type 0} → ℕ → ℕ → A → Option A
at asked number x = if number == asked then Some x else None

-- how a navigable was made
pub record Making : Type 0 where
  pub embedder : Option ℕ
  pub group : Option ℕ
  pub flags : ℕ
  pub navigator : Option ℕ
  pub scripted : Bool

abbrev pub no_making : Making
no_making = record { embedder = None; group = None; flags = 0; navigator = None; scripted = false }

abbrev pub making : ℕ → Option ℕ → What → Option Making
making n actor (Open nav doc group home origin name opener flags navigator load) = at n nav (record { embedder = None; group = Some group; flags = flags; navigator = navigator; scripted = is_some actor })
making n actor (Frame nav doc home origin name flags load) = at n nav (record { embedder = actor; group = None; flags = flags; navigator = None; scripted = false })
making n actor _ = None

-- the document that an entry makes the active one of n
abbrev pub activates : ℕ → What → Option ℕ
activates n (Open nav doc _ _ _ _ _ _ _ _) = at n nav doc
activates n (Frame nav doc _ _ _ _ _) = at n nav doc
activates n (Commit nav doc _) = at n nav doc
activates n _ = None

abbrev pub drops : ℕ → What → Bool
drops n (Drop nav) = nav == n
drops n _ = false

abbrev pub says_gone : ℕ → What → Bool
says_gone n (Gone nav) = nav == n
says_gone n _ = false

abbrev pub says_closing : ℕ → What → Bool
says_closing n (Closing nav) = nav == n
says_closing n _ = false

abbrev pub names : ℕ → What → Option (List ℕ)
names n (Open nav _ _ _ _ name _ _ _ _) = at n nav name
names n (Frame nav _ _ _ name _ _) = at n nav name
names n (Name nav name) = at n nav name
names n _ = None

abbrev pub says_opener : ℕ → What → Option (Option ℕ)
says_opener n (Open nav _ _ _ _ _ opener _ _ _) = at n nav opener
says_opener n (Opener nav to) = at n nav to
says_opener n _ = None

-- the domain that a document has set
abbrev pub says_domain : ℕ → What → Option (Option (List ℕ))
says_domain d (Domain doc domain) = at d doc (Some domain)
says_domain d _ = None

-- the load that an entry begins
abbrev pub load_in : What → Option Load
load_in (Open _ _ _ _ _ _ _ _ _ load) = load
load_in (Frame _ _ _ _ _ _ load) = load
load_in (Begin _ load) = Some load
load_in _ = None

abbrev pub doc_of_load : Option Load → Option ℕ
doc_of_load None = None
doc_of_load (Some load) = Some load.doc

-- the document of a load of n
abbrev pub loads_in : ℕ → What → Option (Option ℕ)
loads_in n (Open nav _ _ _ _ _ _ _ _ load) = at n nav (doc_of_load load)
loads_in n (Frame nav _ _ _ _ _ load) = at n nav (doc_of_load load)
loads_in n (Begin nav load) = at n nav (Some load.doc)
loads_in n _ = None

-- how a document was made
pub record Birth : Type 0 where
  pub nav : ℕ
  pub origin : Origin
  pub home : ℕ
  pub loaded : Bool

-- the number of nothing that was made: such numbers are below it
abbrev pub no_number : ℕ
no_number = 4294967296

-- of a document that was not made: it was made for no navigable, no document has its origin, and its home is no renderer
abbrev pub no_birth : Birth
no_birth = record { nav = no_number; origin = Origin.Opaque no_number; home = 65536; loaded = false }

abbrev pub bears_load : ℕ → ℕ → Option Load → Option Birth
bears_load d nav None = None
bears_load d nav (Some load) = at d load.doc (record { nav = nav; origin = load.origin; home = load.home; loaded = true })

abbrev pub bears : ℕ → What → Option Birth
bears d (Open nav doc _ home origin _ _ _ _ load) = option_or (at d doc (record { nav = nav; origin = origin; home = home; loaded = false })) (bears_load d nav load)
bears d (Frame nav doc home origin _ _ load) = option_or (at d doc (record { nav = nav; origin = origin; home = home; loaded = false })) (bears_load d nav load)
bears d (Begin nav load) = bears_load d nav (Some load)
bears d _ = None

-- whether an entry makes d an active document
abbrev pub shows : ℕ → What → Bool
shows d (Open _ doc _ _ _ _ _ _ _ _) = doc == d
shows d (Frame _ doc _ _ _ _ _) = doc == d
shows d (Commit _ doc _) = doc == d
shows d _ = false

-- the navigables of the Frame entries of d, oldest first
abbrev pub with_frame : ℕ → Option ℕ → ℕ → List ℕ → List ℕ
with_frame d None nav before = before
with_frame d (Some actor) nav before = if actor == d then before ++ nav ∷ [] else before

abbrev pub frames_after : ℕ → Option ℕ → What → List ℕ → List ℕ
frames_after d actor (Frame nav _ _ _ _ _ _) before = with_frame d actor nav before
frames_after d actor _ before = before

-- the loaded documents, oldest first
abbrev pub with_load : Option Load → List ℕ → List ℕ
with_load None before = before
with_load (Some load) before = before ++ load.doc ∷ []

abbrev pub loads_after : What → List ℕ → List ℕ
loads_after what before = with_load (load_in what) before

-- the top-levels, oldest first
abbrev pub tops_after : What → List ℕ → List ℕ
tops_after (Open nav _ _ _ _ _ _ _ _ _) before = before ++ nav ∷ []
tops_after _ before = before

-- how many navigables, documents and groups there are
abbrev pub navs_after : What → ℕ → ℕ
navs_after (Open _ _ _ _ _ _ _ _ _ _) n = n + 1
navs_after (Frame _ _ _ _ _ _ _) n = n + 1
navs_after _ n = n

abbrev pub loads_of : Option Load → ℕ
loads_of None = 0
loads_of (Some _) = 1

abbrev pub docs_after : What → ℕ → ℕ
docs_after (Open _ _ _ _ _ _ _ _ _ load) n = n + (1 + loads_of load)
docs_after (Frame _ _ _ _ _ _ load) n = n + (1 + loads_of load)
docs_after (Begin _ _) n = n + 1
docs_after _ n = n

abbrev pub groups_after : What → ℕ → ℕ
groups_after (Open _ _ group _ _ _ _ _ _ _) n = if group == n then n + 1 else n
groups_after _ n = n

-- what the entries make of a value, oldest first
abbrev pub gathered : {A : Type 0} → (Entry → A → A) → A → List Entry → A
gathered step first [] = first
gathered step first (e ∷ older) = step e (gathered step first older)
