-- The refusal of the front, and the verdict on a record whose front is good.
use Rattle.std.proofs.Common.{ℕ, ◌≡◌, ◌≤◌, ◌<◌, ◌⊎◌, inl, inr, refl, leb, true, false}
use borrow.Author.Tests.{le-leb, lt-leb}
use Rattle.entries.specs.Build.{andb}
use Rattle.answers.specs.declared.Reason.TheVariants.{Check, Content}
use Rattle.records.proofs.Answers.{read_ok, read_err, read_failed}
use Rattle.records.proofs.Told.{start_judged}
use Rattle.records.proofs.read_start.Goals as goal

-- the tests of the counts, from what they hold
module _ (n m x y limit : ℕ) (p : n ≡ x) (q : m ≡ y) where
  over_limit : (limit < n) ⊎ ((n ≤ limit) × (limit < m)) → false ≡ andb (leb x limit) (leb y limit)
  over_limit (inl h) = rw (← p, lt-leb _ _ h)
  over_limit (inr (l, h)) = rw (← p, ← q, le-leb _ _ l, lt-leb _ _ h)

  in_limit : n ≤ limit → m ≤ limit → true ≡ andb (leb x limit) (leb y limit)
  in_limit h l = rw (← p, ← q, le-leb _ _ h, le-leb _ _ l)

pub returns-in_err-read_front : goal.returns-in_err-read_front
returns-in_err-read_front c = read_failed _ _ _ _ c.from_residual.ensures.1 (c.in_err-read_front.ensures _)

pub returns-then-not-is_told : goal.returns-then-not-is_told
returns-then-not-is_told c =
    read_err Check _ _ (start_judged _ _ _ c.in_ok-read_front.ensures (λ i. (c.type_inv.bytes i).fits) _ false _ c.args.k c.args.limit _ _ c.requires
    c.get2-x.ensures.0 c.second_count-y.ensures.0 c.start_check.ensures c.if-not-is_told.ensures refl)

pub returns-then-n-limit : goal.returns-then-n-limit
returns-then-n-limit c =
    read_err Content _ _ (start_judged _ _ _ c.in_ok-read_front.ensures (λ i. (c.type_inv.bytes i).fits) _ true false c.args.k c.args.limit _ _ c.requires
    c.get2-x.ensures.0 c.second_count-y.ensures.0 c.start_check.ensures c.if-not-is_told.ensures
    (over_limit _ _ _ _ c.args.limit refl refl c.then-n-limit.either))

pub returns : goal.returns
returns c =
    read_ok _ _ _ (start_judged _ _ _ c.in_ok-read_front.ensures (λ i. (c.type_inv.bytes i).fits) _ true true c.args.k c.args.limit _ _ c.requires
    c.get2-x.ensures.0 c.second_count-y.ensures.0 c.start_check.ensures c.if-not-is_told.ensures
    (in_limit _ _ _ _ c.args.limit refl refl c.if-n-limit.false c.if-m-limit.false)) cc
