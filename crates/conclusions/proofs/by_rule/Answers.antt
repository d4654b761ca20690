-- Each arm is the function of its rule.
use mathlib.Core.Path.{refl}
use Rattle.tableau.specs.Fields.{rule_fields}
use Rattle.tableau.specs.Rules.{rule}
use Rattle.conclusions.proofs.Laws.{infers, infers_fresh, infers_background, neither}
use Rattle.conclusions.proofs.by_rule.Goals as goal

pub returns-in-Eqr : goal.returns-in-Eqr
unfolding rule_fields rule
returns-in-Eqr c =
    infers c.in-Eqr.is refl c.requires.small_literal.2 (λ table S. S.entries) c.eqr.ensures

pub returns-in-Eql : goal.returns-in-Eql
unfolding rule_fields rule
returns-in-Eql c =
    infers c.in-Eql.is refl c.requires.small_literal.2 (λ table S. S.entries) c.eql.ensures

pub returns-in-Ext : goal.returns-in-Ext
unfolding rule_fields rule
returns-in-Ext c =
    infers_fresh c.in-Ext.is refl c.requires.small_literal.2 (λ table S. S.entries) c.ext.ensures

pub returns-in-Cpe : goal.returns-in-Cpe
unfolding rule_fields rule
returns-in-Cpe c =
    infers c.in-Cpe.is refl c.requires.small_literal.2 (λ table S. S.entries) c.cpe.ensures

pub returns-in-Cpi : goal.returns-in-Cpi
unfolding rule_fields rule
returns-in-Cpi c =
    infers c.in-Cpi.is refl c.requires.small_literal.2 (λ table S. S.entries) c.cpi.ensures

pub returns-in-Cue : goal.returns-in-Cue
unfolding rule_fields rule
returns-in-Cue c =
    infers c.in-Cue.is refl c.requires.small_literal.2 (λ table S. S.entries) c.cue.ensures

pub returns-in-Cui : goal.returns-in-Cui
unfolding rule_fields rule
returns-in-Cui c =
    infers c.in-Cui.is refl c.requires.small_literal.2 (λ table S. S.entries) c.cui.ensures

pub returns-in-Dfe : goal.returns-in-Dfe
unfolding rule_fields rule
returns-in-Dfe c =
    infers c.in-Dfe.is refl c.requires.small_literal.2 (λ table S. S.entries) c.dfe.ensures

pub returns-in-Dfi : goal.returns-in-Dfi
unfolding rule_fields rule
returns-in-Dfi c =
    infers c.in-Dfi.is refl c.requires.small_literal.2 (λ table S. S.entries) c.dfi.ensures

pub returns-in-Sge : goal.returns-in-Sge
unfolding rule_fields rule
returns-in-Sge c =
    infers c.in-Sge.is refl c.requires.small_literal.2 (λ table S. S.entries) c.sge.ensures

pub returns-in-Sgi : goal.returns-in-Sgi
unfolding rule_fields rule
returns-in-Sgi c = infers c.in-Sgi.is refl c.requires.small_literal.2 (λ table S. S) c.sgi.ensures

pub returns-in-Cut : goal.returns-in-Cut
unfolding rule_fields rule
returns-in-Cut c = infers c.in-Cut.is refl c.requires.small_literal.2 (λ table S. tt) c.cut.ensures

pub returns-in-All : goal.returns-in-All
unfolding rule_fields rule
returns-in-All c = infers c.in-All.is refl c.requires.small_literal.2 (λ table S. S) c.all.ensures

pub returns-in-Nul : goal.returns-in-Nul
unfolding rule_fields rule
returns-in-Nul c = infers c.in-Nul.is refl c.requires.small_literal.2 (λ table S. S) c.nul.ensures

pub returns-in-Sep : goal.returns-in-Sep
unfolding rule_fields rule
returns-in-Sep c = infers c.in-Sep.is refl c.requires.small_literal.2 (λ table S. tt) c.sep.ensures

pub returns-in-Img : goal.returns-in-Img
unfolding rule_fields rule
returns-in-Img c = infers c.in-Img.is refl c.requires.small_literal.2 (λ table S. S) c.img.ensures

pub returns-in-Wit : goal.returns-in-Wit
unfolding rule_fields rule
returns-in-Wit c =
    infers_fresh c.in-Wit.is refl c.requires.small_literal.2 (λ table S. S) c.wit.ensures

pub returns-in-Ref : goal.returns-in-Ref
unfolding rule_fields rule
returns-in-Ref c =
    infers c.in-Ref.is refl c.requires.small_literal.2 (λ table S. tt) c.reflexive.ensures

pub returns-in-Sym : goal.returns-in-Sym
unfolding rule_fields rule
returns-in-Sym c = infers c.in-Sym.is refl c.requires.small_literal.2 (λ table S. tt) c.sym.ensures

pub returns-in-Trn : goal.returns-in-Trn
unfolding rule_fields rule
returns-in-Trn c = infers c.in-Trn.is refl c.requires.small_literal.2 (λ table S. tt) c.trn.ensures

pub returns-in-Sub : goal.returns-in-Sub
unfolding rule_fields rule
returns-in-Sub c =
    infers c.in-Sub.is refl c.requires.small_literal.2 (λ table S. S.entries) c.sub.ensures

pub returns-in-Ler : goal.returns-in-Ler
unfolding rule_fields rule
returns-in-Ler c = infers c.in-Ler.is refl c.requires.small_literal.2 (λ table S. tt) c.ler.ensures

pub returns-in-Let : goal.returns-in-Let
unfolding rule_fields rule
returns-in-Let c =
    infers c.in-Let.is refl c.requires.small_literal.2 (λ table S. tt) c.transitive.ensures

pub returns-in-Lea : goal.returns-in-Lea
unfolding rule_fields rule
returns-in-Lea c = infers c.in-Lea.is refl c.requires.small_literal.2 (λ table S. tt) c.lea.ensures

pub returns-in-Rdh : goal.returns-in-Rdh
unfolding rule_fields rule
returns-in-Rdh c =
    infers c.in-Rdh.is refl c.requires.small_literal.2 (λ table S. S.entries) c.rdh.ensures

pub returns-in-Rdm : goal.returns-in-Rdm
unfolding rule_fields rule
returns-in-Rdm c = infers c.in-Rdm.is refl c.requires.small_literal.2 (λ table S. S) c.rdm.ensures

pub returns-in-Cls : goal.returns-in-Cls
unfolding rule_fields rule
returns-in-Cls c = infers c.in-Cls.is refl c.requires.small_literal.2 (λ table S. tt) c.cls.ensures

pub returns-in-Emp : goal.returns-in-Emp
unfolding rule_fields rule
returns-in-Emp c =
    infers c.in-Emp.is refl c.requires.small_literal.2 (λ table S. S.entries) c.emp.ensures

pub returns-in-Fin : goal.returns-in-Fin
unfolding rule_fields rule
returns-in-Fin c = infers c.in-Fin.is refl c.requires.small_literal.2 (λ table S. S) c.fin.ensures

-- the rule that asks whether the branch contradicts itself
pub returns-in-Bck : goal.returns-in-Bck
returns-in-Bck c = infers_background c.in-Bck.is c.bck.ensures

-- these do not come here
pub returns-in-Rep : goal.returns-in-Rep
returns-in-Rep c = absurd (neither c.requires.small_literal.3 c.in-Rep.is)
