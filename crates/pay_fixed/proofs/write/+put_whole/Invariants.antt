use Rattle.pay_fixed.proofs.write.+put_whole.Given as goal

abbrev pub decreases-put_whole : goal.decreases-put_whole
decreases-put_whole l = l.number
