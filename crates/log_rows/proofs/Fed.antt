-- The view is one of the log with an entry more, and each of the rows was fed.
use Rattle.std.proofs.Common.{◌≡◌, ℕ, List, ◌∷◌, Result, Ok, Err, sym, ap, ◌∙◌}
use Rattle.std.specs.Prelude.{OnOk}
use Rattle.tree_log.specs.declared.entry.Entry.{Entry}
use Rattle.tree_log.specs.Tree.{Tree, tree_of, tree_after, tree_of_step}
use Rattle.tree_log.specs.Urls.{url_of, urls_after, url_of_step}

pub tree_next : (e : Entry) (log : List Entry) (t u : Tree) → t ≡ tree_of log → u ≡ tree_after t e → u ≡ tree_of (e ∷ log)
tree_next e log t u was after = after ∙ ap (λ (x : Tree). tree_after x e) was ∙ sym (tree_of_step e log)

pub urls_next : (e : Entry) (log : List Entry) (t u : ℕ → List ℕ) → t ≡ url_of log → u ≡ urls_after t e → u ≡ url_of (e ∷ log)
urls_next e log t u was after = after ∙ ap (λ (x : ℕ → List ℕ). urls_after x e) was ∙ sym (url_of_step e log)

pub on_both : {T E A B C : Type 0} (r : Result T E) → (A → B → C) → OnOk r A → OnOk r B → OnOk r C
on_both (Ok x) f a b = f a b
on_both (Err e) f a b = tt
