-- «share a number»: what `shareb` says.
use Prim.Native.Nat.{ℕ, ◌<◌}
use mathlib.Core.List.{List, [], ◌∷◌}
use mathlib.Core.Bool.{true}
use mathlib.Core.Path.{◌≡◌, sym, ap₂, ◌∙◌}
use native.Mathlib.Omega.{arith}
use lib.ListN.{length}
use borrow.Author.Tests.{ltb-true}
use Rattle.entries.specs.Entries.{Entry, Sound}
use Rattle.entries.specs.Build.{andb}
use Rattle.entries.specs.Sets.{member, intersection}
use Rattle.entries.specs.Bulletins.{shareb}
use Rattle.entries.proofs.Values.{and_true}
use Rattle.entries.proofs.Sets.{intersection_is}
use Rattle.searches.proofs.Sharing.{Common, inside, some_member}

pub shared_number : (r w : List Entry) → shareb r w ≡ true → Common r w
unfolding shareb
shared_number r w e = go (intersection r w) (intersection_is r w).sound (intersection_is r w).members (ltb-true 0 (length (intersection r w)) e)
  where
    go : (l : List Entry) → Sound l → ((x : ℕ) → member l x ≡ andb (member r x) (member w x)) → 0 < length l → Common r w
    go [] s m h = absurd (omega arith)
    go (e ∷ l) s m h =
        let x = e.low in
        let t = and_true (member r x) (member w x) (sym (m x) ∙ inside e l x (omega arith) s.0) in
        record { x = x; left = t.0; right = t.1 }

pub number_shared : (r w : List Entry) (x : ℕ) → member r x ≡ true → member w x ≡ true → shareb r w ≡ true
unfolding shareb
number_shared r w x p q = some_member (intersection r w) x ((intersection_is r w).members x ∙ ap₂ andb p q)
