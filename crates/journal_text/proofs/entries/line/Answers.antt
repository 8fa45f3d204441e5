use Rattle.journal_text.proofs.entries.line.Goals as goal

pub client_line-requires : goal.client_line-requires
client_line-requires c object is = c.requires object c.in-Client.is is

pub returns-in-Client : goal.returns-in-Client
returns-in-Client c = rw c.in-Client.is c.client_line.ensures

pub returns-in-Reporter : goal.returns-in-Reporter
returns-in-Reporter c = rw c.in-Reporter.is c.reporter_line.ensures

pub returns-in-Controller : goal.returns-in-Controller
returns-in-Controller c = rw c.in-Controller.is c.controller_line.ensures
