use Rattle.std.proofs.Common.{◌≡◌, ◌≤◌, ◌-◌, ◌*◌, ◌*ℤ◌, ◌+ℤ◌, pos, unsigned_abs, refl, ◌∙◌, arith, to_z, of_z, w64}
use Rattle.std.proofs.lemmas.Int.{ints}
use Rattle.pay_fixed.specs.Round.{IsRaw, limit}
use Rattle.pay_fixed.specs.Weights.{whole}
use Rattle.pay_fixed.proofs.Blends.{mixed-size, wide-sum}
use Rattle.pay_fixed.proofs.weights.mixed.Goals as goal

-- what the two products are
first_is : (c : goal.After-product-2) → c.product.result ≡ pos c.args.weight *ℤ c.args.yes
first_is c =
    let weight_back : to_z w64 (of_z w64 c.from.result) ≡ c.from.result = omega (arith, ints) in
    let number_back : to_z w64 (of_z w64 c.raw.result) ≡ c.raw.result = omega (arith, ints) in
    cc

second_is : (c : goal.After-product-2) → c.product-2.result ≡ pos (whole - c.args.weight) *ℤ c.args.no
second_is c =
    let weight_back : to_z w64 (of_z w64 c.from-2.result) ≡ c.from-2.result = omega (arith, ints) in
    let number_back : to_z w64 (of_z w64 c.raw-2.result) ≡ c.raw-2.result = omega (arith, ints) in
    cc

sum_size : (c : goal.After-product-2) → unsigned_abs (c.product.result +ℤ c.product-2.result) ≤ whole * limit
sum_size c =
    let first : IsRaw c.args.yes = rw c.raw.ensures.same at c.raw.ensures.within in
    let second : IsRaw c.args.no = rw c.raw-2.ensures.same at c.raw-2.ensures.within in
    rw (first_is c, second_is c) (mixed-size c.args.weight c.args.yes c.args.no c.requires first second)

pub returns-clause-same : goal.returns-clause-same
returns-clause-same c =
    wide-sum c.product.result c.product-2.result c.product.ensures.small c.product-2.ensures.small (omega (arith, sum_size c))
    ∙ rw (first_is c, second_is c) refl

pub returns-clause-small : goal.returns-clause-small
returns-clause-small c =
    rw (wide-sum c.product.result c.product-2.result c.product.ensures.small c.product-2.ensures.small (omega (arith, sum_size c)))
    (sum_size c)
