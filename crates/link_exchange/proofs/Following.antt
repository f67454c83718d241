-- Entries that follow one another, heard one at a time.
use Rattle.std.proofs.Common.{◌≡◌, ◌+◌, ◌≤◌, List, [], ◌∷◌, ◌++◌, length, reverse, true, false, refl, ap, sym, subst, ◌∙◌, arith, append_assoc}
use Rattle.std.specs.Prelude.{◌&&◌}
use Rattle.std.proofs.lemmas.List.{reverse-append}
use Rattle.tree_log.specs.declared.entry.Entry.{Entry}
use Rattle.tree_log.specs.Admits.{admits}
use Rattle.tree_log.specs.Tree.{tree_of}
use Rattle.exchange_laws.specs.Fit.{AreFit}
use Rattle.link_wire.specs.Links.{are_admitted, most_heard}
use Rattle.link_exchange.specs.Hearing.{Extends}

-- so much of the news is heard, and this is the rest
pub record IsHearing (start news now rest : List Entry) : Type 0 where
  pub all : are_admitted now rest ≡ are_admitted start news
  pub same : reverse rest ++ now ≡ reverse news ++ start
  pub room : length now + length rest ≤ most_heard
  pub fit : AreFit rest
  pub grown : Extends start now

first_of : (now rest : List Entry) (e : Entry) → are_admitted now (e ∷ rest) ≡ (admits (tree_of now) e && are_admitted (e ∷ now) rest)
unfolding are_admitted
first_of now rest e = refl

turned : (e : Entry) (rest now : List Entry) → reverse rest ++ (e ∷ now) ≡ reverse (e ∷ rest) ++ now
turned e rest now = sym (ap (λ es. es ++ now) (reverse-append (e ∷ []) rest) ∙ append_assoc (reverse rest) (e ∷ []) now)

pub hears_next : (start news now items rest : List Entry) (e : Entry) → items ≡ e ∷ rest → admits (tree_of now) e ≡ true → IsHearing start news now items
    → IsHearing start news (e ∷ now) rest
hears_next start news now items rest e at ok h =
    let i : IsHearing start news now (e ∷ rest) = subst (λ es. IsHearing start news now es) at h in
    record {
      all = sym (first_of now rest e ∙ ap (λ b. b && are_admitted (e ∷ now) rest) ok) ∙ i.all;
      same = turned e rest now ∙ i.same;
      room = omega (arith, i.room);
      fit = i.fit.1;
      grown = (e ∷ i.grown.0, ap (λ es. e ∷ es) i.grown.1);
    }

pub hears_none : (start news now items rest : List Entry) (e : Entry) → items ≡ e ∷ rest → admits (tree_of now) e ≡ false → IsHearing start news now items
    → false ≡ are_admitted start news
hears_none start news now items rest e at refused h =
    let i : IsHearing start news now (e ∷ rest) = subst (λ es. IsHearing start news now es) at h in
    sym (first_of now rest e ∙ ap (λ b. b && are_admitted (e ∷ now) rest) refused) ∙ i.all

pub hears_last : (start news now items : List Entry) → length items ≡ 0 → IsHearing start news now items → true ≡ are_admitted start news
unfolding are_admitted
hears_last start news now [] none i = i.all
hears_last start news now (e ∷ items) none i = absurd (omega (arith, none))
