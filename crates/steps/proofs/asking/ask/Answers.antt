-- A rule that does not ask is told by any answers; `bck` by what its branch says; for the others
-- the rows are filled up to the branch's length.
use Rattle.steps.proofs.AskingLaws.{tells_any, tells_contradiction, tells_fresh}
use Rattle.steps.proofs.asking.ask.Goals as goal

pub returns-in-Ext-clause-told : goal.returns-in-Ext-clause-told
returns-in-Ext-clause-told c table C E M q P =
    let rows = c.note.ensures table C M q P in
    record {
      tells = tells_fresh table C _ c.args.step _ c.in-Ext.is
          (c.test-fresh.ensures table C E M q rows);
      rows = rows;
    }

pub returns-in-Bck-clause-told : goal.returns-in-Bck-clause-told
returns-in-Bck-clause-told c table C E M q P =
    record {
      tells = tells_contradiction table C _ c.args.step _ c.in-Bck.is
          (c.contradicted.ensures table E q);
      rows = P;
    }

pub returns-in_default : goal.returns-in_default
returns-in_default c =
    let o = c.in_default in
    record {
      noted_le_len = c.requires.branch.1;
      told = λ table C E M q P.
          record {
            tells = tells_any table C _ c.args.step _
                (o.not-Ext, (o.not-Wit, (o.not-Bck, tt)));
            rows = P;
          };
    }
