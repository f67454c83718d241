-- JSON values whose objects have their members by ascending bytes of the names, each name once, at each level.
use Rattle.std.specs.Prelude.{◌≡◌, ℕ, List, ⊤}
use Rattle.std.specs.Ordering.{nat_cmp}
use Rattle.std.specs.declared.cmp.Ordering.TheVariants.{Less}
use Rattle.std.specs.Cmp.Lexicographic.{slice_cmp}
use Rattle.serde_json.specs.Data as json
use Rattle.serde_json.specs.Data.{Data, Items, no_items, item, Members, no_members, member}

-- the first name, if there is one, is above this one
abbrev pub IsBelow : List ℕ → Members → Type 0
IsBelow name no_members = ⊤
IsBelow name (member next j ms) = slice_cmp nat_cmp name next ≡ Less

abbrev pub AreAscending : Members → Type 0
AreAscending no_members = ⊤
AreAscending (member name j ms) = IsBelow name ms × AreAscending ms

abbrev mutual
  pub IsTidy : Data → Type 0
  IsTidy json.null = ⊤
  IsTidy (json.boolean b) = ⊤
  IsTidy (json.number n) = ⊤
  IsTidy (json.string s) = ⊤
  IsTidy (json.array js) = AreTidy js
  IsTidy (json.object ms) = AreAscending ms × MembersAreTidy ms

  pub AreTidy : Items → Type 0
  AreTidy no_items = ⊤
  AreTidy (item j js) = IsTidy j × AreTidy js

  pub MembersAreTidy : Members → Type 0
  MembersAreTidy no_members = ⊤
  MembersAreTidy (member name j ms) = IsTidy j × MembersAreTidy ms
