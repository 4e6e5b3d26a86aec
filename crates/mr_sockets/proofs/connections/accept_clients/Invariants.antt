use Rattle.mr_sockets.proofs.connections.accept_clients.Given as goal

abbrev pub ghosts-serve_counted-C-Clients : goal.ghosts-serve_counted-C-Clients
ghosts-serve_counted-C-Clients g a = record { clients = a.clients }

abbrev pub ghosts-serve_counted-C-Ledger : goal.ghosts-serve_counted-C-Ledger
ghosts-serve_counted-C-Ledger g a = record { name = a.blank.name; parts = a.blank.parts }
