use Rattle.splitter.proofs.digits.+digits_between.Given as goal

-- a half is less
abbrev pub decreases-digits_between : goal.decreases-digits_between
decreases-digits_between l = l.bitmap
