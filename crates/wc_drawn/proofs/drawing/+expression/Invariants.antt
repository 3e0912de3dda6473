use Rattle.wc_drawn.proofs.drawing.+expression.Given as goal

abbrev pub decreases-expression : goal.decreases-expression
decreases-expression l = l.levels
