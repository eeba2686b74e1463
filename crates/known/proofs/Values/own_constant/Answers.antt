-- `known::Values::own_constant` meets its contract.
use native.Mathlib.Omega.{arith}
use Rattle.known.specs.Numbers.{values_of}
use Rattle.known.proofs.Chains.{lead-other, lead-constant, root-constant, root-itself}
use Rattle.known.proofs.Answers.{constant_itself, constant-any, constant-typed, constant-other, constant-named, constant-same}
use Rattle.known.proofs.Values.own_constant.Goals as goal

pub returns-then-x-ge256 : goal.returns-then-x-ge256
returns-then-x-ge256 c = λ tested equal. (
  constant_itself (values_of c.args.self.now tested equal) c.args.x (omega arith),
  λ h. root-constant _ _ (omega arith),
)

pub returns-then-w-eq0 : goal.returns-then-w-eq0
returns-then-w-eq0 c = λ tested equal. (
  constant-any _ _ (omega arith) (omega arith),
  λ h. root-itself _ _ (omega arith) (lead-other _ _ (λ k. omega arith)),
)

pub returns-then-kind-ne-SAME : goal.returns-then-kind-ne-SAME
returns-then-kind-ne-SAME c = λ tested equal. (
  constant-typed _ _ (omega arith) c.if-w-eq0.false _ (λ σ. constant-other _ σ (λ h. omega arith)),
  λ h. absurd (omega arith),
)

pub returns-then-d-lt-CONSTANTS : goal.returns-then-d-lt-CONSTANTS
returns-then-d-lt-CONSTANTS c =
    let d = c.before.first_dependency-d in
    λ tested equal. (
      constant-typed _ _ (omega arith) c.if-w-eq0.false _ (λ σ. constant-named _ σ (omega arith) _ d.ensures.0 (omega arith)),
      λ h. absurd (omega arith),
    )

pub returns : goal.returns
returns c =
    let d = c.before.first_dependency-d in
    λ tested equal. (
      constant-typed _ _ (omega arith) c.if-w-eq0.false _ (λ σ. constant-same _ σ (omega arith) _ d.ensures.0 (omega arith)),
      λ h. root-itself _ _ (omega arith) (lead-constant _ _ (omega arith) _ d.ensures.0 (omega arith)),
    )
