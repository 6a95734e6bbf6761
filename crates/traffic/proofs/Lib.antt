mod Conserving
