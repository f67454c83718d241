-- Whether an entry can follow a log, this project's own: what it names is there, what it makes has the next numbers, and who made it may.
use Rattle.std.specs.Prelude.{ℕ, ◌+◌, List, [], ◌∷◌, IsTrue, Option, Some, None, Bool, true, false, not, ◌&&◌, ◌||◌, ◌==◌, nat_lt}
use Rattle.tree_log.specs.Names.{Entry, Load, What, Open, Frame, Drop, Name, Begin, Commit, Fragment, Opener, Post, Fire, Lapse, Closing, Gone, Lost, Sync, Hidden, Domain}
use Rattle.tree_log.specs.Tree.{Tree, tree_of, nav_of, is_active}

-- Who made it: no renderer and no document
abbrev pub is_nobodys : Option ℕ → Option ℕ → Bool
is_nobodys None None = true
is_nobodys _ _ = false

-- a renderer, and no document
abbrev pub is_renderers : Option ℕ → Option ℕ → Bool
is_renderers (Some r) None = true
is_renderers _ _ = false

-- a renderer, and a document that is active
abbrev pub is_documents : Tree → Option ℕ → Option ℕ → Bool
is_documents t (Some r) (Some d) = nat_lt d t.docs && is_active t d
is_documents t _ _ = false

-- Numbers: this one is one of so many
abbrev pub has : ℕ → ℕ → Bool
has count number = nat_lt number count

abbrev pub has_if_any : ℕ → Option ℕ → Bool
has_if_any count None = true
has_if_any count (Some number) = has count number

-- the number is the next one, and small enough
abbrev pub is_next : ℕ → ℕ → Bool
is_next count number = number == count && nat_lt number 4294967295

abbrev pub is_next_load : ℕ → Option Load → Bool
is_next_load count None = true
is_next_load count (Some load) = is_next count load.doc

-- whether what happened can follow, by whom it was made and what it names
abbrev pub admits_what : Tree → Option ℕ → Option ℕ → What → Bool
admits_what t by actor (Open nav doc group _ _ _ opener _ navigator load) =
    (is_nobodys by actor || is_documents t by actor) && is_next t.navs nav && is_next t.docs doc
    && (has t.groups group || is_next t.groups group) && has_if_any t.navs opener && has_if_any t.navs navigator && is_next_load (t.docs + 1) load
admits_what t by actor (Frame nav doc _ _ _ _ load) = is_documents t by actor && is_next t.navs nav && is_next t.docs doc && is_next_load (t.docs + 1) load
admits_what t by actor (Drop nav) = is_documents t by actor && has t.navs nav
admits_what t by actor (Name nav _) = is_documents t by actor && has t.navs nav
admits_what t by actor (Begin nav load) = is_documents t by actor && has t.navs nav && is_next t.docs load.doc
admits_what t by actor (Commit nav doc _) = is_renderers by actor && has t.navs nav && has t.docs doc && nav_of t doc == nav && not (t.doc doc).been_active
admits_what t by actor (Fragment nav doc _) = is_documents t by actor && has t.navs nav && has t.docs doc
admits_what t by actor (Opener nav to) = is_documents t by actor && has t.navs nav && has_if_any t.navs to
admits_what t by actor (Post to from _ _ _) = is_documents t by actor && has t.docs to && has t.navs from
admits_what t by actor (Fire doc _) = is_renderers by actor && has t.docs doc
admits_what t by actor (Lapse doc _ _) = is_renderers by actor && has t.docs doc
admits_what t by actor (Closing nav) = is_documents t by actor && has t.navs nav
admits_what t by actor (Gone nav) = is_renderers by actor && has t.navs nav
admits_what t by actor (Lost _) = is_nobodys by actor
admits_what t by actor Sync = is_documents t by actor
admits_what t by actor Hidden = is_nobodys by actor
admits_what t by actor (Domain doc _) = is_documents t by actor && has t.docs doc

-- whether the entry can follow a log of this tree
unfoldable pub admits : Tree → Entry → Bool
admits t e = nat_lt t.len 4294967295 && admits_what t e.by e.actor e.what

-- each entry of the log could follow those before it
abbrev pub AreAdmitted : List Entry → Type 0
AreAdmitted [] = Unit {0}
AreAdmitted (e ∷ older) = IsTrue (admits (tree_of older) e) × AreAdmitted older
