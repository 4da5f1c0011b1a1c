use Rattle.pay_tool.proofs.OneAnswer as proof
use Rattle.pay_tool.proofs.laws.one_answer.Goals as goal

pub returns : goal.returns
returns c = proof.one_answer
